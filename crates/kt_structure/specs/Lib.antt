pub mod ProgrammeLaws
pub mod OutputLaws
pub mod Plan
pub mod Coverages
pub mod Ready
pub mod Structure
