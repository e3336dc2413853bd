pub mod Code
pub mod Held
