pub mod Verdicts
pub mod Reviews
