pub mod Rising
pub mod Following
pub mod Levels
pub mod Counting
pub mod Telling
