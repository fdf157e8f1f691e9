pub mod Behind
pub mod ItemsBuilt
pub mod TypesShown
pub mod ModulesShown
pub mod LinesPut
mod Examples
pub mod ExpressionsEqual
