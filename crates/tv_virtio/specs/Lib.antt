pub mod Spans
pub mod Queue
