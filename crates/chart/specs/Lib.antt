pub mod Steps
pub mod Writing
pub mod Of
pub mod Same
pub mod SameLaws
pub mod Putting
