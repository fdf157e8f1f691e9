pub mod Preparing
pub mod Failing
