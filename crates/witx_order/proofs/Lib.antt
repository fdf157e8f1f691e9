pub mod Steps
pub mod HandedPaths
mod Leaving
pub mod OnlyOne
pub mod Ending
pub mod FinalFronts
pub mod Grouping
pub mod Taking
pub mod GroupingFronts
pub mod Read
pub mod Examples
