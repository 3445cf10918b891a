pub mod Assemble
pub mod Ops
