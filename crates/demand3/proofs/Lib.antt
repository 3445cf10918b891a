pub mod Passed
pub mod Left
pub mod CallAt
pub mod Tails
pub mod Theorem
pub mod Computed
pub mod Instance
