pub mod ListTexts
pub mod Functions
