pub mod Part
pub mod PartLaws
