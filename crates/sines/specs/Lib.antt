pub mod Table
pub mod Angle
mod Walk
pub mod Rules
