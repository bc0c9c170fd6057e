pub mod Lined
pub mod Commands
pub mod Stages
pub mod Judging
pub mod Scanning
pub mod Reaching
pub mod Matching
pub mod Long
