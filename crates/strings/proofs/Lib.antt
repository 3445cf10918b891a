pub mod Parts
pub mod Judging
pub mod Outcomes
