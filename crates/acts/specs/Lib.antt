pub mod Acts
pub mod Order
pub mod Language
pub mod Theorems
pub mod Words
