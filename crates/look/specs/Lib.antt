pub mod Replacing
pub mod Look
