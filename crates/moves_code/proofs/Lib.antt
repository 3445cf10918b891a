pub mod Searching
pub mod Emitting
