pub mod Bytes
pub mod Rules
pub mod Answers
pub mod Reading
pub mod Theorems
