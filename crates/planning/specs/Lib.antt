pub mod Plans
pub mod Lines
