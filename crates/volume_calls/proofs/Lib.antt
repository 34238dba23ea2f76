mod Answering
mod Formed
pub mod Renamed
pub mod Lending
mod Calling
