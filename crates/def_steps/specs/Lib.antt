pub mod Definitions
pub mod Heads
pub mod Modifiers
pub mod Params
pub mod Declarations
