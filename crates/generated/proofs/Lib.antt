mod Words
mod Turns
pub mod Counting
mod Spoken
mod Talked
