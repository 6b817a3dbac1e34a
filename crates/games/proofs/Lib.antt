pub mod ListLaws
mod LiftExamples
pub mod SetLaws
pub mod DealLaws
pub mod SizesLaws
mod DealExamples
mod MachineExamples
pub mod SearchLaws
