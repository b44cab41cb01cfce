pub mod Answers
pub mod Happenings
pub mod Scripts
pub mod Services
