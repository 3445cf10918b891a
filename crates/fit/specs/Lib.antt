pub mod Intervals
pub mod Tabled
pub mod Callees
pub mod Keys
