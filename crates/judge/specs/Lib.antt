pub mod Judged
pub mod Passes
