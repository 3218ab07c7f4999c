pub mod Stops
pub mod Lines
pub mod Grammar
