pub mod Answers
pub mod Gaps
pub mod Version
