pub mod Endings
pub mod Lowerable
pub mod Refused
pub mod Attempts
pub mod Numbers
