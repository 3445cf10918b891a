pub mod Counts
pub mod Checks
pub mod Filling
pub mod Ranks
