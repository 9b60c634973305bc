pub mod Repeats
pub mod Laws
pub mod Said
