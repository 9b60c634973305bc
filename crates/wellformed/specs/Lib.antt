pub mod Sound
pub mod RowTests
