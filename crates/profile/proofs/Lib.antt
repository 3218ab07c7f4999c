pub mod Ones
pub mod Whole
