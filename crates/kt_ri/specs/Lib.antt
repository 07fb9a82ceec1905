pub mod Reinsurance
pub mod Ceding
pub mod Ceded
pub mod Left
pub mod Stages
pub mod Examples
