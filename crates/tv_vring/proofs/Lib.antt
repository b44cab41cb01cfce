pub mod Spans
pub mod Runs
pub mod Walks
pub mod Pieces
