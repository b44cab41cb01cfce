pub mod Puts
pub mod States
