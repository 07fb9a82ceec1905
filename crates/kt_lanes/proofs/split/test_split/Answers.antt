use Rattle.std.proofs.Common.{◌<◌, ◌^◌, ◌∙◌, sym, arith}
use Rattle.std.proofs.lemmas.List.{length-set}
use Rattle.std.proofs.lemmas.Nat.{le_or_l, le_or_r}
use Rattle.kt_lanes.specs.SplitLaws.{tested-end, tested-more, tested-start}
use Rattle.kt_lanes.proofs.split.test_split.Goals as goal

pub loop-k-init : goal.loop-k-init
loop-k-init c = record { wide = c.requires.rests_wide; right = λ _. tested-start c.args.totals.now c.args.first.now c.args.second.now c.args.parts.now c.args.rests.now c.requires.rests_wide }

pub overflow_add-first : goal.overflow_add-first
overflow_add-first c = record { fits = omega (arith, c.requires.can.few c.loop-k.k c.loop-k-test.true) }

pub loop-k-preserved : goal.loop-k-preserved
loop-k-preserved c = record {
  wide = length-set c.loop-k.rests c.loop-k.k c.rest_of.result ∙ c.loop-k.invariant.wide;
  right = λ fits.
      let before : c.loop-k.wrong < 2 ^ 32 = omega (arith, fits, le_or_l c.loop-k.wrong c.wrong_bits-wrong.result) in
      let here : c.wrong_bits-wrong.result < 2 ^ 32 = omega (arith, fits, le_or_r c.loop-k.wrong c.wrong_bits-wrong.result) in
      tested-more c.args.totals.now c.args.first.now c.args.second.now c.loop-k.k c.args.rests.now c.args.parts.now c.loop-k.rests c.rest_of.result c.loop-k-test.true (c.loop-k.invariant.right before) (c.wrong_bits-wrong.ensures.value here) c.rest_of.ensures.value;
}

pub returns : goal.returns
returns c = record {
  rests_wide = c.loop-k.invariant.wide ∙ sym c.requires.rests_wide;
  value = λ fits. tested-end c.args.totals.now c.args.first.now c.args.second.now c.loop-k.k c.args.rests.now c.args.parts.now c.loop-k.rests c.loop-k-test.false c.requires.parts_wide (c.loop-k.invariant.right fits);
}

pub wrong_bits-wrong-requires-clause-most : goal.wrong_bits-wrong-requires-clause-most
wrong_bits-wrong-requires-clause-most c = omega (arith, c.requires.can.backed c.loop-k.k c.loop-k-test.true)

pub wrong_bits-wrong-requires-clause-within : goal.wrong_bits-wrong-requires-clause-within
wrong_bits-wrong-requires-clause-within c = omega arith
