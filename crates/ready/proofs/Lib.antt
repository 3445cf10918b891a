pub mod Passes
pub mod Counted
pub mod Shaped
pub mod Keyed
pub mod Given
