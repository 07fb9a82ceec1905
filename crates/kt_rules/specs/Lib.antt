pub mod Amounts
pub mod Profiles
pub mod Rules
pub mod Steps
pub mod RuleLaws
pub mod LossAlone
pub mod Each
pub mod Examples
