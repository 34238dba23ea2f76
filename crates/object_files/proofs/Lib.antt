pub mod CatalogLaws
pub mod EditLaws
pub mod EntryEdits
pub mod EntryLists
pub mod MarkLaws
pub mod SpliceLaws
pub mod WholePages
