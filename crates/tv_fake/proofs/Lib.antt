pub mod Split
pub mod Places
pub mod Zero
pub mod Views
pub mod Raised
pub mod Openings
