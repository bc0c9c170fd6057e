pub mod History
pub mod Right
pub mod Past
pub mod Finding
pub mod Law
