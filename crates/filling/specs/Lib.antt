pub mod Filling
pub mod Sink
pub mod Bounds
pub mod Figures
