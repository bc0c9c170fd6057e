pub mod Lines
pub mod Sessions
pub mod Course
pub mod Stepping
pub mod Going
