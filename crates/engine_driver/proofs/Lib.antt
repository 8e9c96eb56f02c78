pub mod Later
pub mod Additions
pub mod Asks
pub mod Settlings
pub mod Replies
pub mod Feeding
pub mod Checking
