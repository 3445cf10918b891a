pub mod Masked
pub mod Words
pub mod Shuffle
pub mod After
pub mod Theorem
pub mod Example
