pub mod Rows
pub mod Beside
pub mod Grouped
pub mod Removed
