pub mod Moving
pub mod Owning
pub mod MovedOwners
