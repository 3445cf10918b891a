pub mod Interning
pub mod Asked
