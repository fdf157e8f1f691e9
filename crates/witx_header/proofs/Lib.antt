pub mod Appending
pub mod Commenting
pub mod Typing
pub mod Numbered
pub mod Declaring
pub mod Calls
pub mod Sides
mod Examples
