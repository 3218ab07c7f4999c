pub mod Items
pub mod Loads
pub mod Lowest
