pub mod Fronts
pub mod Spaces
