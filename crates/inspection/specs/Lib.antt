pub mod Names
pub mod Places
pub mod Sources
pub mod Tallies
pub mod Refusals
