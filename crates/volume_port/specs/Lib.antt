pub mod Giving
pub mod GivingUp
pub mod LeafPieces
pub mod Logged
pub mod Ported
pub mod Reading
pub mod State
pub mod Stays
