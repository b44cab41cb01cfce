pub mod Capabilities
pub mod Machines
pub mod Valid
