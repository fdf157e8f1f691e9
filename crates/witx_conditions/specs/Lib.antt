pub mod Documents
pub mod FittingEvents
pub mod Making
pub mod NameTests
pub mod OwnNames
