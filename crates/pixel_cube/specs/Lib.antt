pub mod Cube
pub mod Table
pub mod TableLaws
pub mod Corners
pub mod Ways
