pub mod Bench
pub mod BoxedFirst
pub mod InARow
pub mod Kept
pub mod OneCall
pub mod Refused
pub mod Replies
pub mod TicksOfCell
