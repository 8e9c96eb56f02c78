pub mod Fitting
pub mod Memo
pub mod Typing
pub mod Completion
