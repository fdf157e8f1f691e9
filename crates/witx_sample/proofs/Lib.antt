pub mod Numbered
pub mod Sizes
pub mod SampleBundles
pub mod Totals
pub mod Examples
