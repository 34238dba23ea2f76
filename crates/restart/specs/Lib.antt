pub mod Adopting
pub mod Content
pub mod Opening
