pub mod WordCuts
pub mod DataParts
pub mod Slots
pub mod Places
pub mod RowReads
pub mod Keeps
pub mod Told
pub mod Laws
