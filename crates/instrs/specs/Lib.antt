pub mod Instrs
pub mod Needs
pub mod Env
