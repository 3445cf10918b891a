pub mod Sizes
pub mod Kept
pub mod Making
pub mod Made
