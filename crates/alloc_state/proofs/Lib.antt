pub mod Distinct
pub mod Ours
pub mod Marking
pub mod Judge
pub mod States
