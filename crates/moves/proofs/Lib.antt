pub mod Columns
pub mod Turns
pub mod Checked
pub mod Words
pub mod Stuck
pub mod Steps
pub mod Runs
pub mod Theorem
