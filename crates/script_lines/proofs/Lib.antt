pub mod Buffers
pub mod Feeds
pub mod NextLines
pub mod Returns
pub mod Showing
pub mod Takings
pub mod Skipping
