pub mod Host
pub mod Hushed
pub mod Lent
