pub mod Direct
pub mod Fields
pub mod Grants
pub mod Machines
