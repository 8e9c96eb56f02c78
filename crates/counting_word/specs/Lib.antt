pub mod Rooms
pub mod Blank
pub mod History
pub mod Views
pub mod Rule
pub mod Steps
pub mod Calls
