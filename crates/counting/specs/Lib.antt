pub mod Tally
pub mod Names
pub mod Refusals
pub mod Verdict
pub mod VerdictLaws
pub mod Laws
