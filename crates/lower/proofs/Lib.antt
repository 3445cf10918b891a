pub mod Operands
pub mod Constants
