pub mod Position
pub mod Bounds
pub mod Circle
pub mod Arc
pub mod Figures
