pub mod Seen
pub mod Keeping
pub mod Drives
