pub mod PlaceOrder
pub mod Alike
pub mod Older
pub mod Counting
pub mod Ranking
pub mod Labelling
