pub mod Sheets
pub mod Tallies
pub mod Pairings
pub mod Steps
pub mod Plays
