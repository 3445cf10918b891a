pub mod Returns
pub mod Terms
