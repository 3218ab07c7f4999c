pub mod Numbers
pub mod Split
pub mod Bytes
