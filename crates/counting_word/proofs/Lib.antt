pub mod Beginnings
pub mod Counting
pub mod Naming
pub mod Moves
pub mod Leading
