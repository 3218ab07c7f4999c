pub mod Agree
pub mod Holding
