pub mod History
pub mod Board
pub mod Serving
pub mod Runs
