pub mod Settling
pub mod Others
pub mod Tickets
