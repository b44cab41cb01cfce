pub mod Resized
pub mod Spots
