pub mod Claims
pub mod Desk
pub mod Rule
pub mod Seats
pub mod Steps
