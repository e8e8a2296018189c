pub mod Giving
pub mod Sameness
