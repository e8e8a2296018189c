pub mod Entries
pub mod Kept
pub mod Memo
pub mod Room
