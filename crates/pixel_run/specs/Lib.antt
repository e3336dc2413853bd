pub mod Each
pub mod EachLaws
pub mod Step
pub mod StepLaws
pub mod Prepare
pub mod Finite
pub mod FiniteLaws
