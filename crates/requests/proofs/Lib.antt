pub mod Steps
pub mod UnitLines
pub mod CallLines
pub mod CellLines
pub mod Grammar
