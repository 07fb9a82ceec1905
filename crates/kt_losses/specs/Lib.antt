pub mod Judged
pub mod Known
pub mod Standing
pub mod Tables
pub mod Summed
