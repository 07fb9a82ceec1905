use Rattle.std.proofs.Common.{ℕ, List, nat_eq, ap, ◌∙◌}
use Rattle.std.specs.List.{list_any}
use Rattle.kt_sum.proofs.RunSumsLemmas.{among}
use Rattle.kt_sum.proofs.run.rising_of.Goals as goal

pub returns-clause-there : goal.returns-clause-there
returns-clause-there c = λ k d below summary is. c.keep_once.ensures.same summary ∙ (ap (λ (ids : List ℕ). list_any (nat_eq summary) ids) c.in_ok-summaries.ensures ∙ among c.args.found.now k summary d below is)
