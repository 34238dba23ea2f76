pub mod EmptyVolumes
pub mod EmptyCatalogs
pub mod NewCatalogs
pub mod CommittedLoads
pub mod ItemNumbers
pub mod TreePieces
pub mod StandingTrees
pub mod StandingFiles
pub mod StandingPieces
pub mod SegmentsInUse
pub mod OtherUnits
pub mod OneContent
pub mod WrittenVolumes
pub mod DumpTrees
pub mod DumpVersions
pub mod DumpLinks
pub mod ObjectIndex
pub mod DumpObjects
pub mod DumpHolds
mod PiecesApart
mod WalkedUnits
mod WalkedBack
mod StreamsRead
mod Finishing
mod DumpsWalked
pub mod EmptyVolumesStay
mod WrittenBack
pub mod Filling
pub mod Linking
pub mod Plain
pub mod Standing
pub mod Entries
pub mod FileEnds
pub mod Taken
pub mod Putting
pub mod Growing
pub mod Beginning
pub mod Facts
pub mod Making
pub mod Causes
pub mod EndedBy
pub mod Pieces
pub mod Wholeness
pub mod Verdicts
pub mod Feeding
pub mod HeadsTaken
pub mod Names
pub mod Closing
pub mod FileHeads
pub mod VersionsTaken
pub mod PiecesFed
pub mod HeadsSpelled
pub mod WholeStreams
pub mod StreamsWritten
pub mod EndFaults
