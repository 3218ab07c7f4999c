pub mod Decode
pub mod Refusals
pub mod Reply
pub mod Status
pub mod Texts
