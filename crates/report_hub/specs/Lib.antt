pub mod Telling
pub mod Told
pub mod Hub
