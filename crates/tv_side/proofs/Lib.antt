pub mod Landing
pub mod Tubes
