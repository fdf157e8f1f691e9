pub mod Texts
pub mod Copied
pub mod CopyLemmas
pub mod PlacementLemmas
pub mod AnswerLemmas
