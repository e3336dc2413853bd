pub mod Refusals
pub mod Cut
pub mod Rules
pub mod TriedFile
pub mod LookRuns
pub mod Theorems
