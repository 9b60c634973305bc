pub mod SealLaws
pub mod Weighing
