pub mod Readings
pub mod Meaning
pub mod Answers
pub mod Steps
pub mod ErrorReports
pub mod OneFile
