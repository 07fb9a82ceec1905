pub mod Gathering
pub mod RoundTripLemmas
pub mod IndexLemmas
pub mod CheckLemmas
pub mod GoRoundLemmas
