pub mod Declaring
pub mod Params
pub mod Scopes
pub mod Validators
