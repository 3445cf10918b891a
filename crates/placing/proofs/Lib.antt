pub mod Answers
pub mod Parts
pub mod Ends
pub mod Tried
pub mod Low
