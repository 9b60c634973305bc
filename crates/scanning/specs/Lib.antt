pub mod Escapes
pub mod Pieces
pub mod Types
pub mod Laws
