pub mod DistinctLemmas
pub mod FirstRowLemmas
pub mod RepeatedLemmas
pub mod RisingLemmas
pub mod UnitTableLemmas
pub mod StepLemmas
