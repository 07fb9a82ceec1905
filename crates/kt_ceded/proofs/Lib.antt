mod AddedLemmas
mod TurnLemmas
