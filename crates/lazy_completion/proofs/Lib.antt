pub mod Exact
pub mod Memos
pub mod Chains
pub mod Distances
pub mod Typings
pub mod Steps
