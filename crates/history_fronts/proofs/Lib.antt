pub mod TurnItems
pub mod Said
pub mod Follows
pub mod Prefixes
pub mod Dumped
pub mod Begins
