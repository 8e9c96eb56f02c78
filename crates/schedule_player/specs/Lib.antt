pub mod Owed
pub mod SessionState
pub mod Around
pub mod InStep
pub mod Steps
pub mod Reporting
