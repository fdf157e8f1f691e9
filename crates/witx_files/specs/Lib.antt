pub mod Answers
pub mod FailingFiles
pub mod Files
pub mod LocatedTexts
