use Rattle.kt_tables.proofs.AnswerLemmas.{valid-from_ok}
use Rattle.kt_tables.proofs.ExposureLemmas.{addable}
use Rattle.kt_tables.proofs.portfolio.kept.Goals as goal

pub new-requires : goal.new-requires
new-requires c = addable _ (valid-from_ok _ c.requires.ranges c.requires.needed c.requires.periods c.first_check.result c.first_check.ensures.exact c.in_ok-first_check.was)

pub returns-clause-valid : goal.returns-clause-valid
returns-clause-valid c = valid-from_ok _ c.requires.ranges c.requires.needed c.requires.periods c.first_check.result c.first_check.ensures.exact c.in_ok-first_check.was
