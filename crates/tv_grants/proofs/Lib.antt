pub mod Bytes
pub mod Machines
pub mod Numbers
pub mod Theirs
