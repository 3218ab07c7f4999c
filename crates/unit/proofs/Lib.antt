pub mod Fixed
pub mod Made
pub mod Served
pub mod Holds
pub mod Deaf
