pub mod Indexes
pub mod Log
pub mod Reloads
pub mod Tally
pub mod Closing
pub mod Refusal
pub mod Queue
pub mod QueueFacts
