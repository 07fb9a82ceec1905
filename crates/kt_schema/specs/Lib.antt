pub mod Conversions
pub mod Footprint
pub mod FootprintLaws
pub mod Index
pub mod Laws
pub mod Loading
pub mod Rows
pub mod Tables
