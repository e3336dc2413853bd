pub mod Laws
pub mod Applying
