pub mod Counts
pub mod NamedFiles
pub mod Calls
