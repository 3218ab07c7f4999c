pub mod Address
pub mod Bits
pub mod File
pub mod Pipes
pub mod Readings
pub mod Rows
pub mod Table
