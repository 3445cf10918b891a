pub mod Compaction
pub mod Entry
pub mod Steps
pub mod Theorems
