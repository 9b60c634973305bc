pub mod First
pub mod Alone
pub mod Corners
