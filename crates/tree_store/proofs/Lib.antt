pub mod Counting
pub mod Forgetting
pub mod Framing
pub mod Places
pub mod Reading
pub mod Taking
