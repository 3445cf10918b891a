pub mod OwnEntry
