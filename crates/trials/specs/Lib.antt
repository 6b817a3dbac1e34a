pub mod Toggles
pub mod Shown
pub mod Checks
pub mod Solutions
pub mod Searches
pub mod Replays
pub mod Witness
pub mod Examples
