pub mod Sums
pub mod Apart
