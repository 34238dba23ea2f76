pub mod Gathering
pub mod Heads
pub mod ItemLaws
pub mod Needs
pub mod Reads
