pub mod Forms
pub mod Lines
pub mod Over
pub mod Volumes
