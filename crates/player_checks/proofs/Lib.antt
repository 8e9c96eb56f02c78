pub mod Busy
pub mod Playable
