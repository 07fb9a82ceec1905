pub mod Giving
pub mod Stepping
pub mod Taking
pub mod Growing
pub mod Settling
pub mod Going
pub mod Ending
pub mod Rows
pub mod Joining
pub mod RunStepping
pub mod RecordReading
pub mod RunLists
mod FileReading
