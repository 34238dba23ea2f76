pub mod Found
pub mod High
pub mod Moved
pub mod Moves
pub mod Walk
