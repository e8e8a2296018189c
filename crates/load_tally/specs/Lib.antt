pub mod Answers
pub mod Weights
pub mod Counts
pub mod Tallies
pub mod Steps
