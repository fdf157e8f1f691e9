pub mod Exact
pub mod ExactTypes
pub mod ExactModules
pub mod Steps
pub mod SectionSteps
