mod Rows
pub mod TurnLaws
pub mod BoxLaws
pub mod TurnsSaid
pub mod LimitsLaws
