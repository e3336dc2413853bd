pub mod Behind
pub mod Contents
pub mod Texts
