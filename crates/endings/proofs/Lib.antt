pub mod Relabels
pub mod Wipes
