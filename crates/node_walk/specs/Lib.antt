pub mod Notes
pub mod Counts
pub mod TreesNamed
pub mod Walk
