pub mod Chains
pub mod Lines
pub mod Loads
pub mod Outputs
pub mod Probes
pub mod Said
pub mod Saved
pub mod Statuses
