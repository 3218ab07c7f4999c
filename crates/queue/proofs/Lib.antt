pub mod Fifo
pub mod Kept
