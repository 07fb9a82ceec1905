use Rattle.std.proofs.Common.{◌-◌, ◌*◌, arith}
use Rattle.kt_damage.proofs.SampleLemmas.{damage_within}
use Rattle.kt_damage.proofs.StepLemmas.{bin_line}
use Rattle.kt_damage.proofs.steps.line_of.Goals as goal

pub scaled-requires-clause-within : goal.scaled-requires-clause-within
scaled-requires-clause-within c =
    let below = c.requires.below in
    let within = damage_within c.args.low c.args.high (c.args.upto - c.args.before) (1000000 * c.args.first - c.args.before) c.requires.least c.requires.most (omega arith) in
    rw (c.from.ensures, c.from-2.ensures, c.from-rate.ensures, c.saturating_sub.ensures) (omega (arith, within))

pub returns : goal.returns
returns c = record {
  value = bin_line c.args.low c.args.high c.args.before c.args.upto c.args.first c.args.span c.span_of-span.result c.scaled.result c.rise_of.result c.requires c.span_of-span.ensures.within
      (rw (c.from.ensures, c.from-2.ensures, c.from-rate.ensures, c.saturating_sub.ensures) at c.scaled.ensures.least)
      (rw (c.from.ensures, c.from-2.ensures, c.from-rate.ensures, c.saturating_sub.ensures) at c.scaled.ensures.most)
      (λ over within. rw (c.from-rate.ensures, c.saturating_sub.ensures) at (c.rise_of.ensures.least over within))
      (λ over within. rw (c.from-rate.ensures, c.saturating_sub.ensures) at (c.rise_of.ensures.most over within));
}
