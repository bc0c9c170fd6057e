pub mod Meaning
pub mod Pairs
pub mod Ways
pub mod Places
pub mod Stores
pub mod WaysLemmas
pub mod Steps
