pub mod FaultTexts
pub mod Format
pub mod Saying
pub mod TermRules
pub mod Refusing
pub mod Reading
