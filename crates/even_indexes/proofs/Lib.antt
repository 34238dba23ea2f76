pub mod Sharing
pub mod Sizes
pub mod Whole
pub mod Places
pub mod Filling
