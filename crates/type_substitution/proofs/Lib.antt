pub mod Exact
pub mod Substituted
