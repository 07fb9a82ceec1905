pub mod Adding
pub mod PeriodTables
pub mod Standing
pub mod Fitting
pub mod Examples
pub mod EventLossTable
pub mod PeriodLossTable
pub mod OwnTables
