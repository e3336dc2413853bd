pub mod Nodes
pub mod Words
pub mod Dims
pub mod Cubes
pub mod Lists
pub mod AttributeLaws
pub mod Standing
pub mod Ends
