pub mod MarkLaws
pub mod AnswerLaws
pub mod CountLaws
pub mod RetellLaws
mod Examples
