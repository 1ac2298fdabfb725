pub mod CellLaws
pub mod CellState
pub mod Cells
pub mod LineLaws
pub mod LineState
pub mod Lines
pub mod Sizes
