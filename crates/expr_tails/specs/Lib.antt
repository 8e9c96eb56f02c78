pub mod Ending
pub mod Operators
pub mod Tails
pub mod Symbols
pub mod Types
