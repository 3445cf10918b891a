pub mod Masked
pub mod Shuffling
pub mod Calling
