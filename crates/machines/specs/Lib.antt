pub mod Files
pub mod Reading
pub mod Theorems
pub mod Worked
