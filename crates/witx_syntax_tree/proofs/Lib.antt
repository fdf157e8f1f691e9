pub mod TypeViews
pub mod Unlike
pub mod Equal
pub mod Copied
pub mod Decided
pub mod Compared
