pub mod Example
pub mod Order
pub mod Short
pub mod Tail
