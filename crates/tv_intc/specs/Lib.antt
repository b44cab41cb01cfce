pub mod Finisher
pub mod ControllerState
pub mod ControllerMap
pub mod Controller
pub mod TimerState
pub mod TimerMap
pub mod Timer
