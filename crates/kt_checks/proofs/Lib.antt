pub mod OutputLemmas
pub mod RefusalLemmas
pub mod UnitLemmas
