pub mod Gathered
pub mod Texts
pub mod Words
pub mod WordsLaws
