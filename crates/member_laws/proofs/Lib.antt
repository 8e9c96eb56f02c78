pub mod Apart
pub mod Gathered
