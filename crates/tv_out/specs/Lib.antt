pub mod Faults
pub mod Calls
pub mod Disk
pub mod Shelf
pub mod Told
pub mod Asked
