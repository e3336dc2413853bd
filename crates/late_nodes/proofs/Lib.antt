pub mod Wins
pub mod Shapes
pub mod Orders
pub mod Whole
pub mod One
