pub mod DrawOff
pub mod Feed
pub mod Plot
pub mod Led
