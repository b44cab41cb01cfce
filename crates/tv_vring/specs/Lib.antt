pub mod Walking
pub mod Rings
