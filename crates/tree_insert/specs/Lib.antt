pub mod Places
pub mod Growth
pub mod Grown
pub mod Need
pub mod Edited
pub mod Replaced
pub mod Counts
