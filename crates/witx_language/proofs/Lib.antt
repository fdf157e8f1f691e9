pub mod Apart
pub mod Before
pub mod Digits
pub mod Held
pub mod Wording
pub mod Lawful
pub mod Spelled
