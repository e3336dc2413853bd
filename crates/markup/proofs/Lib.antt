pub mod Known
pub mod Tags
pub mod ItemLaws
pub mod Next
