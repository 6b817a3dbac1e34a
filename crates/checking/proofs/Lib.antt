pub mod ControllerLaws
pub mod BoundLaws
pub mod CheckLaws
pub mod StateSetLaws
pub mod SourceLaws
pub mod SnapshotLaws
pub mod PlayLaws
pub mod PlaceLaws
pub mod AttractorLaws
pub mod PassLaws
pub mod NearLaws
pub mod WriteLaws
pub mod SolutionLaws
pub mod UniqueLaws
pub mod SolveLaws
pub mod MarkLaws
pub mod FilterLaws
pub mod BlockLaws
pub mod PromiseLaws
pub mod CandidateLaws
pub mod VerdictLaws
pub mod SearchingLaws
mod ReachExamples
mod SearchExamples
