mod WordLaws
mod Examples
