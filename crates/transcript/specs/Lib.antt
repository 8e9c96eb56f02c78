pub mod Names
pub mod Printed
pub mod Transcript
pub mod Outcomes
