pub mod Ends
pub mod Walks
pub mod Blocks
pub mod Grows
pub mod Growing
