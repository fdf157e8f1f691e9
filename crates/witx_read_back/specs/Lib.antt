pub mod Distinct
pub mod Emptied
pub mod SameEntries
pub mod DocumentTexts
pub mod Plain
pub mod PrintedTokens
pub mod Says
pub mod ReadBack
