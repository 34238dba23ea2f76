pub mod PartCuts
pub mod HexParts
pub mod PairBits
