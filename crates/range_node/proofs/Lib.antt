pub mod Values
pub mod Ranges
