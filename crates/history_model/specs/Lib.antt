pub mod History
pub mod Stream
pub mod Trees
pub mod FilePages
pub mod Items
pub mod Dumps
pub mod Laws
pub mod Rows
