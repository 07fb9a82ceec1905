pub mod RoundTrip
pub mod GoRound
