pub mod Seal
pub mod Light
pub mod Columns
