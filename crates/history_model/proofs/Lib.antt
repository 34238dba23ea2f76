pub mod ItemReadings
pub mod Lengths
pub mod SameTables
pub mod WorkedRows
