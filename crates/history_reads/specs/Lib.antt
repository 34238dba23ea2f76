pub mod Heads
pub mod Kept
pub mod Reads
pub mod Steps
pub mod Rising
pub mod Ends
