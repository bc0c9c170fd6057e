pub mod Spelling
pub mod Growing
pub mod Entering
pub mod Showing
pub mod Least
pub mod Choosing
