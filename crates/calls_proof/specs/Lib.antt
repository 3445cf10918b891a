pub mod CallsRight
