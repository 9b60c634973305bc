pub mod Gather
pub mod Far
pub mod GatherLaws
