pub mod Monitor
pub mod MonitorState
pub mod Moves
pub mod Parts
pub mod Replay
pub mod Replaying
pub mod Slots
