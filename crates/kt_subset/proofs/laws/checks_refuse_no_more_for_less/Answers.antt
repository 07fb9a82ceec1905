use Rattle.kt_subset.specs.LessChecks.{samples_kept, samples_within, valid_within}
use Rattle.kt_subset.proofs.laws.checks_refuse_no_more_for_less.Goals as goal

pub returns-clause-valid : goal.returns-clause-valid
returns-clause-valid c rows other small big within has valid = valid_within rows other small big within has valid

pub returns-clause-samples : goal.returns-clause-samples
returns-clause-samples c rows other small big within has samples keeps = samples_within rows other small big within has samples keeps

pub returns-clause-known : goal.returns-clause-known
returns-clause-known c rows need some valid = samples_kept rows need some valid
