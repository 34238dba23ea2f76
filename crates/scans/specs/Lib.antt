pub mod Scans
pub mod Lending
