pub mod Entries
pub mod Boxing
pub mod Units
pub mod Ticking
pub mod Commanding
pub mod Hearing
pub mod Laws
