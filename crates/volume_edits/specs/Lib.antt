pub mod Ported
pub mod Shown
pub mod Edits
pub mod TableUpdates
pub mod Purposes
pub mod Damage
