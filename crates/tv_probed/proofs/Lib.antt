pub mod Brings
pub mod Given
pub mod Working
