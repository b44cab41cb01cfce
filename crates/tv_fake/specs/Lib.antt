pub mod DiskFields
pub mod MemoryStore
pub mod Opened
pub mod Shelf
pub mod Tally
pub mod Giving
