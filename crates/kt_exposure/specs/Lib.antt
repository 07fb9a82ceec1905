pub mod Exposure
