pub mod Mute
pub mod Silence
