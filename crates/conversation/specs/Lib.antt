pub mod Conversations
pub mod Running
