pub mod Starred
pub mod Cubes
pub mod Ends
pub mod Names
pub mod Bounds
