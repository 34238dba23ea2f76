pub mod Outside
pub mod Calls
pub mod Runs
pub mod Changes
