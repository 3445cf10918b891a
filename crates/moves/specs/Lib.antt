pub mod Moves
pub mod AtOnce
