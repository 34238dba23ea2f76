pub mod Places
pub mod Cuts
pub mod Opens
pub mod Beside
pub mod Leaves
pub mod Left
pub mod Trees
