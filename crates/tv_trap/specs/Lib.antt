pub mod CsrState
pub mod Registers
pub mod Traps
