pub mod ClampRuns
pub mod UnitScales
pub mod FiniteTests
