pub mod Questions
pub mod Rounds
pub mod Laws
