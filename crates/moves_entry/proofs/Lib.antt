pub mod Checks
pub mod Gathering
pub mod Outcomes
pub mod Words
pub mod Answers
