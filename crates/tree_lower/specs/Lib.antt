pub mod Comprehending
pub mod Keeping
pub mod Lowering
