pub mod ByType
pub mod LaidOut
pub mod Pages
pub mod Parts
pub mod PolyfillTexts
pub mod Pieces
