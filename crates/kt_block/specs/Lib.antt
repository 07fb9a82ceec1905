pub mod Terms
pub mod Block
