use Rattle.std.proofs.Common.{◌≡◌, ◌+◌, ◌-◌, ◌<◌, List, length, take, slice_index_or, not, pos, ap, subst, sym, arith, ◌∙◌}
use Rattle.std.proofs.lemmas.Grind.{common_steps}
use Rattle.std.proofs.lemmas.List.{take_all}
use Rattle.kt_stream.specs.declared.entry.Pair.{Pair}
use Rattle.kt_runs.specs.Adding.{IsAdded}
use Rattle.kt_runs.specs.Sidx.{place_of, sidx_at}
use Rattle.kt_runs.proofs.AddLemmas.{added_more}
use Rattle.kt_runs.proofs.RunSumLemmas.{not_past, past, run_kept, set_few}
use Rattle.kt_runs.specs.LossLaws.{sidx_inside}
use Rattle.std.proofs.lemmas.List.Elements.{All-from_recursion}
use Rattle.kt_stream.specs.Pairs.{IsPair}
use Rattle.kt_runs.proofs.run_sums.add_to_run.Goals as goal

pub returns-then-sum-gt-MOST-clause-exact : goal.returns-then-sum-gt-MOST-clause-exact
returns-then-sum-gt-MOST-clause-exact c = λ records run_are.
    let none : Pair = record { sidx = pos 0; loss = 0 } in
    let entry = c.args.entry.now in
    let i = c.loop-pair.pair-index in
    let are = c.as_slice-pair-items.ensures.value in
    let sums = c.loop-pair.sums in
    let below = subst (λ (pairs : List Pair). i < length pairs) are c.loop-pair-test.true in
    let back = subst (λ (pairs : List Pair). sidx_at c.place_of.result ≡ (slice_index_or pairs i none).sidx) are c.place_of.ensures.back in
    let value = subst (λ (pairs : List Pair). c.place_of.result ≡ place_of (slice_index_or pairs i none).sidx) are c.place_of.ensures.value in
    let inside = sidx_inside c.args.samples (slice_index_or entry.pairs i none).sidx (All-from_recursion (IsPair c.args.samples) entry.pairs c.requires.entry.pairs.each i none below).sidx in
    let low = inside.0 in
    let high = inside.1 in
    sym (ap not (past c.args.samples entry c.requires.entry c.args.sums.now c.requires.sums records run_are sums i c.place_of.result none below
    (subst (λ (pairs : List Pair). IsAdded 2147483646 c.args.sums.now (take i pairs) sums) are c.loop-pair.invariant.added)
    (omega (arith, value, low)) (omega (arith, value, high)) back
    (subst (λ (pairs : List Pair). 10000000000000000 < slice_index_or sums (c.place_of.result - 2147483646) 0 + (slice_index_or pairs i none).loss) are c.if-sum-gt-MOST.true)))

pub loop-pair-preserved : goal.loop-pair-preserved
loop-pair-preserved c =
    let none : Pair = record { sidx = pos 0; loss = 0 } in
    let entry = c.args.entry.now in
    let i = c.loop-pair.pair-index in
    let are = c.as_slice-pair-items.ensures.value in
    let here = c.loop-pair.invariant in
    let below = subst (λ (pairs : List Pair). i < length pairs) are c.loop-pair-test.true in
    let value = subst (λ (pairs : List Pair). c.place_of.result ≡ place_of (slice_index_or pairs i none).sidx) are c.place_of.ensures.value in
    let inside = sidx_inside c.args.samples (slice_index_or entry.pairs i none).sidx (All-from_recursion (IsPair c.args.samples) entry.pairs c.requires.entry.pairs.each i none below).sidx in
    let low = inside.0 in
    let high = inside.1 in
    record {
      added = added_more 2147483646 c.as_slice-pair-items.result.now i c.place_of.result none c.loop-pair-test.true (omega (arith, value, low)) c.place_of.ensures.back c.args.sums.now c.loop-pair.sums here.added (omega (arith, value, high, c.requires.sums.width_is));
      few = set_few c.loop-pair.sums (c.place_of.result - 2147483646) _ here.few (omega (arith, value, low, high, c.requires.sums.width_is, here.added.width_is)) c.if-sum-gt-MOST.false;
    }

pub returns-clause-exact : goal.returns-clause-exact
returns-clause-exact c = λ records run_are.
    let are = c.as_slice-pair-items.ensures.value in
    let all = take_all c.loop-pair.pair-index c.as_slice-pair-items.result.now (omega (arith, c.loop-pair-test.false)) ∙ are in
    sym (ap not (not_past c.args.samples c.args.entry.now c.requires.entry c.args.sums.now c.requires.sums records run_are c.loop-pair.sums (subst (λ (pairs : List Pair). IsAdded 2147483646 c.args.sums.now pairs c.loop-pair.sums) all c.loop-pair.invariant.added) c.loop-pair.invariant.few))

pub returns-clause-kept : goal.returns-clause-kept
returns-clause-kept c = λ records run_are done.
    let are = c.as_slice-pair-items.ensures.value in
    let all = take_all c.loop-pair.pair-index c.as_slice-pair-items.result.now (omega (arith, c.loop-pair-test.false)) ∙ are in
    run_kept c.args.samples c.args.entry.now c.requires.entry c.args.sums.now c.requires.sums records run_are c.loop-pair.sums (subst (λ (pairs : List Pair). IsAdded 2147483646 c.args.sums.now pairs c.loop-pair.sums) all c.loop-pair.invariant.added) c.loop-pair.invariant.few

pub overflow_add-sum : goal.overflow_add-sum
overflow_add-sum c = grind (arith, common_steps)

pub returns-then-sum-gt-MOST-clause-kept : goal.returns-then-sum-gt-MOST-clause-kept
returns-then-sum-gt-MOST-clause-kept c = grind (arith, common_steps)

pub returns-clause-sums : goal.returns-clause-sums
returns-clause-sums c = λ done. record { width_is = c.loop-pair.invariant.added.width_is ∙ c.requires.sums.width_is; few = c.loop-pair.invariant.few }

pub returns-then-sum-gt-MOST-clause-sums : goal.returns-then-sum-gt-MOST-clause-sums
returns-then-sum-gt-MOST-clause-sums c = grind (arith, common_steps)
