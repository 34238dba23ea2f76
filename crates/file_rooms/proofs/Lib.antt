pub mod EditedFiles
mod GoingBack
mod Looked
mod Lowest
mod Marked
mod Order
pub mod StaysTrue
mod Vacant
pub mod Kept
