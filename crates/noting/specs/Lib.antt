pub mod Inks
pub mod Refusals
pub mod Astray
pub mod AstrayLaws
pub mod InkLaws
