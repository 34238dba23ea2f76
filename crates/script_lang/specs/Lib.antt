pub mod LineWords
pub mod Grammar
pub mod Reading
pub mod Forms
pub mod Rows
pub mod ReadValues
pub mod Parsed
