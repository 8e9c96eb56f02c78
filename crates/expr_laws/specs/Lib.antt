pub mod Definitions
pub mod Exactly
pub mod Imports
pub mod Items
pub mod Newlines
pub mod Pictures
