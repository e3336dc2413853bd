pub mod Shapes
pub mod Arrays
