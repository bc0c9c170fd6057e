pub mod Lone
pub mod Refused
pub mod Empty
