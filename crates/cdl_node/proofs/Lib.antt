pub mod Inner
pub mod Cdls
