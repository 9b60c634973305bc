pub mod Rules
pub mod NearestLaws
