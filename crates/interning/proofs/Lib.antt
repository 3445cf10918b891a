pub mod Found
pub mod Passes
pub mod Interned
