pub mod Names
pub mod Request
pub mod NameLaws
pub mod RequestLaws
pub mod Examples
