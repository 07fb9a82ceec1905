pub mod RunLemmas
mod ToolLemmas
pub mod SummingLemmas
mod KnownLemmas
