pub mod Held
pub mod Smalls
pub mod Reading
