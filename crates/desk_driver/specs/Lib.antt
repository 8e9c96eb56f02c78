pub mod Seen
pub mod Serves
pub mod Drives
