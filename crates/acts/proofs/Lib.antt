pub mod Parts
pub mod Counts
pub mod Diamond
pub mod Stuck
pub mod Ordering
pub mod Playing
pub mod Running
