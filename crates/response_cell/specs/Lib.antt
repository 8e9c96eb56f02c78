pub mod Cells
pub mod History
