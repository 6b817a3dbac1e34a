pub mod Damages
pub mod Calls
pub mod Marks
pub mod Lines
pub mod Recordings
