pub mod Walks
pub mod Transcribed
pub mod Histories
pub mod Laws
