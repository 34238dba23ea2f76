pub mod OptionFacts
pub mod Parses
pub mod Readings
pub mod Requests
pub mod Scan
pub mod ScanSpells
pub mod Values
pub mod WalkAsScan
