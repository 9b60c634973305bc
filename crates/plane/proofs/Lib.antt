pub mod PositionLaws
pub mod CircleLaws
pub mod ArcLaws
