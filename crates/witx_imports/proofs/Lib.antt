pub mod Placed
mod Examples
pub mod Checked
pub mod Exact
pub mod Spelled
