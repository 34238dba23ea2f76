pub mod Linked
pub mod Found
