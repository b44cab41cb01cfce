pub mod Contents
pub mod Places
pub mod Refusals
pub mod States
