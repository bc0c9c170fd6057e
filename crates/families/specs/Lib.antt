pub mod Judgement
pub mod Families
pub mod Tests
pub mod Theorems
