pub mod Listed
pub mod Under
