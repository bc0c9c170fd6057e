pub mod Adding
pub mod Stepping
pub mod Goings
