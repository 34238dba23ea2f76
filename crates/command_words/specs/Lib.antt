pub mod Numerals
pub mod Items
pub mod Commands
pub mod Wishes
pub mod ClapCommand
