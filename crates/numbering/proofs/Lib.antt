pub mod Same
pub mod Noting
pub mod Masks
