pub mod Ranges
pub mod Switches
pub mod Examples
