pub mod Links
pub mod Labels
pub mod Found
pub mod Laws
