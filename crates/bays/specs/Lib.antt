pub mod Inputs
pub mod Bays
