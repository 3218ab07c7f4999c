pub mod Octets
pub mod Packet
pub mod Calls
pub mod Damage
pub mod Cases
