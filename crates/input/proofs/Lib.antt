pub mod Chain
pub mod Rows
pub mod Each
pub mod Words
