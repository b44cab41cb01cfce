pub mod Messages
pub mod Proxies
