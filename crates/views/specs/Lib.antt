pub mod Spelled
pub mod Building
pub mod Tables
pub mod Children
pub mod Parties
