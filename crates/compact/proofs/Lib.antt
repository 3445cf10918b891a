pub mod Every
pub mod Sending
pub mod Turns
pub mod Ends
pub mod Aiming
pub mod Theorems
