pub mod Members
pub mod Named
pub mod Spaces
pub mod Types
