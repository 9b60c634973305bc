pub mod Table
pub mod Every
pub mod Among
pub mod Said
