pub mod Places
pub mod SavedReader
pub mod Saved
