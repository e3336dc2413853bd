pub mod Runs
pub mod Readings
pub mod Table
pub mod Cubes
pub mod Ends
pub mod Names
pub mod Bounds
