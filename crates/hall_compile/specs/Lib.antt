pub mod Proposals
pub mod Choices
pub mod Levels
pub mod Outcomes
pub mod Deciding
pub mod Passing
