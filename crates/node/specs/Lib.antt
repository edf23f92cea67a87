pub mod Cells
pub mod Kind
