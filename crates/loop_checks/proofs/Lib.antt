pub mod OpenAsks
pub mod Sizes
