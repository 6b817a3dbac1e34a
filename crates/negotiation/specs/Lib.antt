pub mod Refusals
pub mod Negotiations
pub mod Lines
