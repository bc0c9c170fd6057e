pub mod Shown
pub mod Masking
pub mod Joints
pub mod Telling
pub mod Plays
