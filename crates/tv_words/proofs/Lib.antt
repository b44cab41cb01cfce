pub mod Adding
pub mod Lines
pub mod Readings
pub mod Walk
pub mod Words
