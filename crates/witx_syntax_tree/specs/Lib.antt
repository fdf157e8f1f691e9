pub mod Trees
pub mod Views
pub mod Unplaced
pub mod Same
pub mod SameLaws
pub mod Copies
pub mod Compared
