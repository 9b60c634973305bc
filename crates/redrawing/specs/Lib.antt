pub mod Drafts
pub mod Lists
pub mod RedrawingLaws
