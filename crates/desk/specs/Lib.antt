pub mod Answers
pub mod Boxed
pub mod Counts
pub mod CellCalls
pub mod Slots
pub mod Making
pub mod Desks
pub mod Lending
