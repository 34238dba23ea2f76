pub mod Versions
pub mod Listed
pub mod Needs
pub mod Found
pub mod Edited
pub mod Put
pub mod Damage
