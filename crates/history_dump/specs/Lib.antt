pub mod Streams
pub mod Sending
pub mod Items
pub mod Positions
pub mod Writing
