pub mod Counted
pub mod Following
pub mod Lines
pub mod Lists
pub mod Once
pub mod Steps
pub mod Visits
pub mod Walks
