pub mod Past
pub mod Loading
pub mod Comparing
pub mod Made
