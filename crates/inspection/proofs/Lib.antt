mod NameLaws
mod Examples
