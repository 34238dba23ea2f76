pub mod Dense
pub mod Moving
pub mod Faults
pub mod Objects
pub mod Resting
pub mod Working
pub mod Packing
pub mod Loop
