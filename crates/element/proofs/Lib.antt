pub mod Starts
pub mod Elements
