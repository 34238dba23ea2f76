pub mod Bodies
pub mod Damage
pub mod Files
pub mod Indexes
pub mod Places
pub mod Placing
pub mod Removing
pub mod Touches
