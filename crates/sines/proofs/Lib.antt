mod Remainder
pub mod Quarters
