pub mod Lengths
pub mod Pages
pub mod Numbers
pub mod CountLaws
