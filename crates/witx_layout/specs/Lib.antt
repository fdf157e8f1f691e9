pub mod Laws
pub mod LayoutsText
pub mod Refusals
pub mod Numbers
pub mod Nodes
pub mod Layouts
pub mod Known
