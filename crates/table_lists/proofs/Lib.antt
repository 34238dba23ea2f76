pub mod Flat
pub mod Steps
