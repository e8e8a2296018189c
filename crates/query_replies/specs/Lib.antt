pub mod Replies
pub mod LongLines
pub mod Right
pub mod EqualReplies
pub mod Memoized
pub mod MoreLines
