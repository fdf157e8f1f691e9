pub mod Constants
pub mod Contents
pub mod Families
pub mod Forests
pub mod Lending
pub mod Links
pub mod NamesKnown
pub mod Trees
