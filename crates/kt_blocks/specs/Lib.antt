pub mod Footprint
pub mod Progress
pub mod Tables
