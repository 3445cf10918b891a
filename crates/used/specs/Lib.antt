pub mod Used
pub mod Pens
