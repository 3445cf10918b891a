pub mod Made
pub mod Fresh
pub mod Row
pub mod Uses
pub mod Theorem
pub mod Shown
pub mod Instance
pub mod Unread
