pub mod Keys
pub mod Edited
pub mod Changed
