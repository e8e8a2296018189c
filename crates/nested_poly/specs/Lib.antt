pub mod Nodes
pub mod Tails
pub mod Splits
pub mod Trees
pub mod Roots
pub mod Counts
