pub mod Offered
pub mod Within
pub mod Patterned
pub mod Heard
pub mod Alike
