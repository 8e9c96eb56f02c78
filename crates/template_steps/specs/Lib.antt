pub mod ClassParams
pub mod Heads
pub mod Pieces
pub mod Statements
pub mod Templates
