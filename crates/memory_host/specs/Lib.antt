pub mod Plan
pub mod Stays
pub mod Replay
pub mod ReplayLaws
pub mod Host
