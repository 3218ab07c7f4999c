pub mod Modes
pub mod Budget
