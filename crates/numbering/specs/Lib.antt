pub mod Numbering
pub mod Masks
