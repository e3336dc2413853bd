pub mod Number
pub mod RightForm
pub mod Steps
pub mod Told
