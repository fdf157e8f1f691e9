pub mod Views
pub mod Told
pub mod Handed
pub mod Failing
pub mod Calling
