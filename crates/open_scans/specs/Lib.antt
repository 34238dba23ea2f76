pub mod OpenScans
pub mod GroupRows
