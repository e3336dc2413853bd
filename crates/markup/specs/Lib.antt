pub mod Items
pub mod Next
pub mod Settled
pub mod Between
