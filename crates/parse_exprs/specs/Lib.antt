pub mod Cases
pub mod Checks
pub mod Contents
pub mod Items
pub mod Levels
pub mod Lists
pub mod Parting
pub mod Statements
