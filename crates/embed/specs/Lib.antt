pub mod Cells
pub mod Packing
pub mod Reading
pub mod Repeating
pub mod Running
pub mod Units
