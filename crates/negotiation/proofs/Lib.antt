pub mod NegotiationLaws
mod Examples
