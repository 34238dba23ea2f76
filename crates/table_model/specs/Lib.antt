pub mod Words
pub mod Tables
pub mod Requests
pub mod Machines
pub mod Needs
pub mod Refusals
pub mod Steps
pub mod Laws
