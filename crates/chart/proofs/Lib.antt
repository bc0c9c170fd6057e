pub mod Reached
pub mod Kept
pub mod Put
pub mod Putting
pub mod Compared
