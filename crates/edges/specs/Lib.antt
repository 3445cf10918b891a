pub mod Pairs
pub mod Edges
