pub mod SampleLemmas
pub mod StepLemmas
pub mod MomentLemmas
