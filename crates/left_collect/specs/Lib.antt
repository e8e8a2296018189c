pub mod Conjugates
pub mod Collected
pub mod Pieces
