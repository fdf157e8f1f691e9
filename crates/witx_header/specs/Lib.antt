pub mod CNames
pub mod CTypes
pub mod Typedefs
pub mod Bodies
pub mod Kept
pub mod Headers
