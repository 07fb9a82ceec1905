pub mod Folding
pub mod Lanes
pub mod Claimed
pub mod Gathering
