pub mod Located
pub mod Trees
