pub mod Images
pub mod Longest
pub mod Runs
