pub mod Operands
pub mod Instructions
