pub mod Inside
pub mod Texts
pub mod Collections
pub mod RightReplies
