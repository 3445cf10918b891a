pub mod State
pub mod Allocation
pub mod Good
