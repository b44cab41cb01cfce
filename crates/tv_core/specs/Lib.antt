pub mod Bursts
pub mod Calls
pub mod Fields
pub mod Holds
pub mod Lanes
pub mod Seen
pub mod Serves
pub mod Stands
