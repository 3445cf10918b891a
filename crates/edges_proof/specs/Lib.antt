pub mod EdgesRight
