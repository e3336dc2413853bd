pub mod Calls
pub mod Rooms
