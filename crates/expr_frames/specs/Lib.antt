pub mod Frames
pub mod Generators
pub mod Heads
