pub mod Cuts
pub mod Lines
pub mod Copied
pub mod DocumentationExamples
pub mod Bare
