pub mod VerdictLaws
mod Examples
