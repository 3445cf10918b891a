pub mod CallsKept
