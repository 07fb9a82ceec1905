pub mod Numbers
pub mod Dealing
pub mod Passes
pub mod Slots
pub mod Arrivals
