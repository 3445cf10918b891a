pub mod Entries
pub mod Sharing
pub mod Inner
