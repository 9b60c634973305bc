pub mod Listings
pub mod Drawing
pub mod DrawingLaws
