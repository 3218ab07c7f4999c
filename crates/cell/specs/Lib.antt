pub mod Refusals
pub mod Texts
pub mod Air
pub mod Calls
pub mod Making
pub mod Pins
