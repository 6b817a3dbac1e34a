mod Examples
pub mod FirstLaws
pub mod Ranges
pub mod EntryLaws
pub mod Answering
pub mod Padding
pub mod Bits
pub mod PhaseLaws
pub mod RuleLaws
pub mod MarkLaws
pub mod MachineLaws
pub mod RecordLaws
