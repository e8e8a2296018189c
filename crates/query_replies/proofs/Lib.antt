pub mod EndsAtLine
pub mod VectorTexts
pub mod RightReplies
pub mod EqualReplies
pub mod Keeping
