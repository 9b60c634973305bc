pub mod Bytes
pub mod Classes
pub mod Number
pub mod Run
pub mod Numeral
pub mod Marks
pub mod RunLaws
