pub mod Lines
pub mod Remains
pub mod Taking
pub mod Passing
pub mod Windows
pub mod Reader
