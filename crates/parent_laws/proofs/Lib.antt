pub mod Lists
pub mod Refines
pub mod Split
