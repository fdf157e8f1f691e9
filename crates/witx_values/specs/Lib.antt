pub mod Language
pub mod Parts
pub mod Readings
pub mod TextTokens
pub mod Texts
pub mod Words
