pub mod DeviceFiles
pub mod Keys
pub mod MachineFiles
