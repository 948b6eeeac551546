pub mod Cells
pub mod Shape
pub mod Moves
pub mod Descending
pub mod Links
