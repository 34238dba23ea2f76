pub mod Rooms
pub mod Truth
