pub mod Bodies
pub mod Linked
pub mod Links
pub mod Copies
pub mod Removals
pub mod Lineage
pub mod Lookup
pub mod Touches
