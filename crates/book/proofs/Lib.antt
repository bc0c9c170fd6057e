pub mod Tables
pub mod Slots
pub mod Pasts
pub mod Laws
