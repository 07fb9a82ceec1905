mod RoundLemmas
mod ArmLemmas
mod LaneLemmas
mod ListLemmas
mod GatherLemmas
