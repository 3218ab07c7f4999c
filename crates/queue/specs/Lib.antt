pub mod Entries
pub mod Order
