pub mod Tests
pub mod Words
pub mod Names
pub mod Entities
pub mod Comments
pub mod Texts
