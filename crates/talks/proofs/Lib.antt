pub mod Steps
pub mod Rows
pub mod Going
pub mod Passing
pub mod Stopping
pub mod Whole
