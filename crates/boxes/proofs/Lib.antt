pub mod CellCalls
pub mod Cells
pub mod LineCalls
pub mod Lines
pub mod Places
