pub mod Braces
pub mod Reading
pub mod Steps
