pub mod Hex
pub mod Lines
pub mod Words
pub mod Show
pub mod Commands
