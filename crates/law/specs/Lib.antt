pub mod Lists
pub mod Runs
pub mod Law
pub mod Weakened
