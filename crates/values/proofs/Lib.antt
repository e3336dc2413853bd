pub mod Tokens
pub mod Stored
pub mod Loop
pub mod Elements
