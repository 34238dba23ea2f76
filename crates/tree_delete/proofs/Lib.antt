mod CutLaws
mod LeafLaws
mod Faults
mod NodeLaws
mod OpenLaws
mod RowLaws
mod TreeLaws
mod TopLaws
pub mod Ends
mod Beside
