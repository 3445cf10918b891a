pub mod Counts
pub mod Shape
