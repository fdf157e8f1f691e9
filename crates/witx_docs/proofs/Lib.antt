mod Grown
mod Judging
pub mod Lines
pub mod Conversions
pub mod FunctionParts
pub mod Viewed
pub mod PolyfillExamples
mod EachSteps
mod FunctionNodes
mod Knowing
mod Standing
mod PartNames
mod PartSteps
mod DocumentParts
mod Paging
mod RefusedPages
mod Generated
mod PageTrees
pub mod PageExamples
