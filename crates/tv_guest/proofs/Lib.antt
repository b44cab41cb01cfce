pub mod Acting
pub mod Bursts
pub mod First
pub mod Guests
pub mod Looks
pub mod Ports
pub mod Quiet
pub mod Rows
