pub mod Generating
pub mod HiddenTrees
pub mod KeptFor
pub mod KeptOperations
pub mod KeptTrees
pub mod Params
