pub mod SampledLoss
pub mod ItemMoments
pub mod Sampled
pub mod Steps
pub mod MomentSums
pub mod DamageMoments
