pub mod Catalog
pub mod Edits
pub mod Marks
pub mod Reads
