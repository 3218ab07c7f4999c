pub mod Cuts
pub mod Decimals
pub mod Octets
pub mod Pairs
pub mod Back
pub mod Grammar
pub mod Shown
pub mod Texts
