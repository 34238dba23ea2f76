pub mod Sending
pub mod Talked
pub mod Spoken
pub mod Sourced
pub mod Whole
