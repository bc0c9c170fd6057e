pub mod Ranges
pub mod Agreement
pub mod Testing
pub mod Kinding
pub mod Paths
pub mod Realize
pub mod Matching
pub mod Verdicts
