pub mod Verdict
pub mod Product
pub mod Theorems
pub mod Worked
