pub mod Hand
pub mod Locating
