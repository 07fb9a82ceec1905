pub mod Within
pub mod SameRows
pub mod Less
pub mod LessChecks
pub mod SameTables
pub mod Loading
