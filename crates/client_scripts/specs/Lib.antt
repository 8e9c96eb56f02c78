pub mod Lines
pub mod Clients
pub mod OfScripts
pub mod History
pub mod Passes
pub mod Runs
pub mod Holding
