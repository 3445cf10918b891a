pub mod Accept
pub mod Calls
pub mod Refusals
pub mod Sharing
pub mod Unchanged
