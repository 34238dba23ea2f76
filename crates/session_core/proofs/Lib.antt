pub mod Accepted
mod Beside
mod Bridge
mod Committing
mod Digests
pub mod Stopping
pub mod Ending
pub mod Finding
pub mod Damage
pub mod Ways
mod UpdateDamage
mod Holding
mod Homes
mod PortParts
mod Turning
mod TurnedParts
mod TakingOut
pub mod Listing
mod Moved
mod Moving
pub mod Naming
mod OutOfRange
mod Performing
pub mod Picking
pub mod Quiet
mod Reading
pub mod Refusing
mod Roomed
mod Ruling
pub mod Sessions
mod Settling
mod Sweeping
mod Shaping
mod Tracking
pub mod Undisturbed
mod Updating
mod Writing
pub mod WritingHome
mod Tallies
mod Contents
mod Changed
mod Removed
mod Copied
mod Relatives
pub mod TakingPages
mod Recorded
pub mod OtherScans
pub mod Opening
pub mod Closing
mod Releasing
mod Aborting
mod CommitSteps
mod Checkpointing
pub mod Taken
mod ScanBytes
pub mod HeldRows
pub mod OtherRows
mod Followed
mod Fresh
mod Lowest
mod Remembering
