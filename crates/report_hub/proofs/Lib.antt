pub mod Reports
pub mod Slots
