pub mod Remainders
pub mod Weighing
pub mod Counting
pub mod Lines
pub mod RightTallies
