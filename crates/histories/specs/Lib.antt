pub mod History
pub mod Right
pub mod Law
