pub mod Console
pub mod Feeding
pub mod Summary
