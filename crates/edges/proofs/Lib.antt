pub mod Columns
pub mod Moved
pub mod Emitting
pub mod Padding
