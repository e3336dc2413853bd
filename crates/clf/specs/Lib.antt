pub mod Numbers
pub mod Nodes
pub mod List
pub mod Reading
pub mod Places
pub mod Whole
pub mod Description
