use Rattle.kt_event.specs.Loading.{insured_last, loads_programme}
use Rattle.kt_event.proofs.plan.base_up_to.Goals as goal

pub base_of-requires : goal.base_of-requires
base_of-requires c = record {
  programme = loads_programme c.args.terms.now c.args.portfolio.now.need c.requires.need c.requires.terms (insured_last c.args.terms.now c.args.portfolio.now.need c.requires.need c.requires.terms c.in-Il.is);
}
