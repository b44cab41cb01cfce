pub mod Answer
pub mod Faultless
pub mod Members
pub mod Numbers
pub mod Tables
pub mod Unknown
pub mod ValidDevices
pub mod Validity
