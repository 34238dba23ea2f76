pub mod Noted
pub mod Counted
pub mod Searched
