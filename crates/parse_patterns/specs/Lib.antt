pub mod Names
pub mod Operators
pub mod Parting
pub mod Reading
pub mod Steps
pub mod Symbols
