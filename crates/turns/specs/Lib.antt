pub mod Turn
pub mod Limits
pub mod FractionLaws
pub mod Figures
