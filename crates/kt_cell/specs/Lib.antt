pub mod Losses
pub mod Standing
pub mod Sets
pub mod Amounts
pub mod SameKeys
pub mod TotalLaws
