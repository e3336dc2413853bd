pub mod Late
