pub mod Faults
pub mod Logs
pub mod Law
pub mod Running
pub mod Cells
