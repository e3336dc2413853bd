pub mod Keeps
pub mod WaysLaws
pub mod CountLaws
pub mod CornersLaws
