pub mod Traces
pub mod LineParts
pub mod Passages
pub mod ReadTypes
pub mod LineReading
pub mod Refusals
pub mod Answers
pub mod ReadBack
