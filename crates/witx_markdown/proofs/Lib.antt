pub mod Ancestry
pub mod ConstantTypes
pub mod Descent
mod Dotted
mod Ids
mod Joined
mod Linking
pub mod NameSteps
