pub mod Lut1d
pub mod Lut1dLaws
pub mod Floor
pub mod Table
pub mod TableLaws
