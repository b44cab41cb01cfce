pub mod Adding
pub mod Claiming
pub mod Closing
pub mod Counting
pub mod Seating
pub mod Taking
pub mod Turning
pub mod Viewing
