pub mod Steps
pub mod Predicts
pub mod Lookahead
pub mod Tables
pub mod Choosing
pub mod Grounded
pub mod Progress
pub mod Chosen
pub mod Firsts
pub mod Parts
pub mod Verdicts
pub mod Opened
pub mod Reading
pub mod Derive
pub mod Makes
mod Examples
pub mod Stack
