pub mod Ascii
pub mod Bytes
pub mod formers
pub mod Number
pub mod Problems
pub mod Show
pub mod ShowType
