pub mod Rules
pub mod Code
pub mod Places
pub mod Ended
