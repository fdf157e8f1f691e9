pub mod Declarations
pub mod Starting
pub mod PathSets
pub mod Uses
pub mod Reached
pub mod Room
pub mod Items
pub mod Whole
pub mod OneFile
pub mod ReadTexts
mod Examples
