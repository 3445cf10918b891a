pub mod Words
pub mod Entries
