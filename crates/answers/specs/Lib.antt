pub mod Texts
pub mod Profiles
