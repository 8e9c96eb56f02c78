pub mod Clients
pub mod Counts
pub mod Faults
pub mod Input
pub mod Leads
pub mod Limits
pub mod Reads
pub mod Sources
