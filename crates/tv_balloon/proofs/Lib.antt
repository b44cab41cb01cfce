pub mod Pages
pub mod States
pub mod Told
