pub mod Divided
pub mod Lists
