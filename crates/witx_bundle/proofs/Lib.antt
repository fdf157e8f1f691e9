pub mod Examples
pub mod Feeds
pub mod Fronts
pub mod Headers
pub mod LastTexts
pub mod LineSteps
