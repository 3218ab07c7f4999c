pub mod Live
pub mod Commands
pub mod Loading
pub mod Checking
