pub mod SumLemmas
pub mod RowLemmas
pub mod RisingLemmas
pub mod PlaceLemmas
pub mod GivingLemmas
