mod PlaceLaws
mod PlanLaws
mod Paid
mod Layouts
mod LeafStep
mod Spans
mod BelowRows
mod ReplacedLeaves
mod ReplacedRuns
mod NodeStep
mod PaidRows
mod RootGrow
mod Faults
mod WalkFaults
mod Counting
pub mod RootEdit
pub mod SoundWays
