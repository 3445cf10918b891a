pub mod Program
pub mod Compile
pub mod Attempt
