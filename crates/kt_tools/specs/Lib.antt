pub mod Needs
pub mod GeneratedRun
pub mod Outcome
pub mod RunEnds
pub mod Uses
pub mod Due
