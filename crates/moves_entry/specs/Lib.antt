pub mod Entry
pub mod Gathering
