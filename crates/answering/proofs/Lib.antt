pub mod Least
pub mod Only
