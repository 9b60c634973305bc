pub mod Text
pub mod TextLaws
pub mod Word
pub mod WordLaws
