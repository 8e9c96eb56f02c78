pub mod Tickets
pub mod Marks
