pub mod Compared
pub mod ComparedLaws
pub mod Tally
pub mod Ran
pub mod RanLaws
