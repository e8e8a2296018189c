pub mod Cached
pub mod KeptPairs
pub mod Lines
pub mod Memos
