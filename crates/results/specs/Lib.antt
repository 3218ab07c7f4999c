pub mod Field
pub mod Outcomes
pub mod Texts
pub mod Rows
