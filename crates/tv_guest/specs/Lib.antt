pub mod Burst
pub mod Direct
pub mod Guest
pub mod GuestState
pub mod Looks
pub mod Row
