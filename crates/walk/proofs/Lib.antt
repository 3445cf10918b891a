pub mod Rows
pub mod Begin
pub mod Placed
