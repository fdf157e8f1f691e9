pub mod Refusals
pub mod Arrivals
pub mod Numbers
