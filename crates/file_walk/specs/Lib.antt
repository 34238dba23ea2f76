pub mod Walk
pub mod Objects
pub mod Parts
pub mod Indexes
pub mod Records
pub mod Numbers
