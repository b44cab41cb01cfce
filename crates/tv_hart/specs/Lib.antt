pub mod Effect
pub mod Hart
pub mod HartState
pub mod Loads
pub mod Operation
pub mod Place
pub mod Plain
