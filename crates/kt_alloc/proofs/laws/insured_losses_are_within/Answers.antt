use Rattle.kt_alloc.proofs.laws.insured_losses_are_within.Goals as goal

pub returns : goal.returns
returns c = record {
  within = c.insured_losses_keep_the_limit.ensures.within c.args.portfolio.now (record { valid = c.is_valid.ensures.valid; programme = c.requires.programme; terms = c.requires.terms; outputs = c.requires.outputs });
}
