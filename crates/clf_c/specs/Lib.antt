pub mod Answers
pub mod Applying
