pub mod Accepted
pub mod Examples
pub mod Unique
pub mod Valued
