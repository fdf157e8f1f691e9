pub mod Items
pub mod Walks
pub mod Groups
pub mod GroupFronts
pub mod Verdicts
pub mod Fronts
pub mod Laws
