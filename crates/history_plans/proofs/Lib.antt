pub mod Results
pub mod Tables
pub mod Walking
pub mod Listing
pub mod Filling
pub mod Roots
pub mod Shown
