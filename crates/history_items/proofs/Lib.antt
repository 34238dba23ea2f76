pub mod FileFronts
pub mod Heads
pub mod ItemNeeds
pub mod LeafItems
pub mod NodeItems
pub mod Stays
pub mod VersionItems
pub mod WrittenItems
