pub mod Records
pub mod Batches
