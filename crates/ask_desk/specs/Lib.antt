pub mod Lending
pub mod Events
pub mod Answers
pub mod Locked
pub mod Passes
pub mod Results
pub mod Facts
pub mod Driving
