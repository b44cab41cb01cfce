pub mod Answers
pub mod Commands
pub mod Refusals
pub mod Stages
pub mod Steps
pub mod Texts
