pub mod Sidx
pub mod Losses
pub mod RowType
pub mod EventLoss
pub mod PeriodLoss
pub mod Fitting
