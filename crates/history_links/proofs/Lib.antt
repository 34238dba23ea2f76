pub mod NumberOrder
pub mod Older
pub mod Counting
pub mod LinkList
