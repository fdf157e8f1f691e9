pub mod Names
pub mod SpanSteps
pub mod Compared
pub mod Standing
pub mod Answered
mod Examples
