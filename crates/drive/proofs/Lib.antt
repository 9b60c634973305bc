pub mod Laws
pub mod Floats
