pub mod Reading
pub mod Converting
pub mod TextReading
pub mod EveLemmas
pub mod FootprintLemmas
mod GulLemmas
mod ModelLemmas
