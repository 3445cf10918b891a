pub mod Buffers
pub mod Checks
