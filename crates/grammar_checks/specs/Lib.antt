pub mod Samples
pub mod Trees
