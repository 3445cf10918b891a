pub mod Chosen
pub mod Lookups
pub mod Runs
