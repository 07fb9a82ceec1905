pub mod Needs
pub mod Losses
pub mod Plan
pub mod Loading
