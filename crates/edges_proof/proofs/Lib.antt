pub mod Columns
pub mod Uses
pub mod Placed
pub mod Theorem
pub mod Example
