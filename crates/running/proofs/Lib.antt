pub mod Tables
pub mod LastEnd
