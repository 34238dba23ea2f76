pub mod Sorted
pub mod Versions
pub mod Objects
pub mod Changes
pub mod Rows
pub mod Laws
