pub mod Progress
pub mod Playing
pub mod Pushed
pub mod Charts
pub mod Of
