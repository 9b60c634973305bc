pub mod UsableOnce
pub mod Calls
pub mod Machines
pub mod Loadable
pub mod Run
pub mod RunLaws
pub mod Gather
pub mod GatherLaws
