pub mod Balloons
pub mod Blocks
pub mod Consoles
pub mod Meaning
pub mod World
