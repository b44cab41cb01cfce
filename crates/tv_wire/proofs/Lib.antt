pub mod Again
pub mod Answered
pub mod Digits
pub mod Found
pub mod Pairs
pub mod Whole
pub mod Written
