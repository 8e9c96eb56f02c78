pub mod Built
pub mod Keeping
pub mod Parting
pub mod Reading
pub mod Standing
pub mod Steps
pub mod Symbols
pub mod Words
