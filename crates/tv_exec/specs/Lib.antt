pub mod Arithmetic
pub mod Atomic
pub mod Division
