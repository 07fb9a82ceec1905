use Rattle.std.proofs.Common.{◌++◌, ◌+◌, ◌∙◌, List, [], ap, slice_index, sym}
use Rattle.std.specs.List.{cons_option}
use Rattle.kt_runs.specs.Sidx.{pair_of, sidx_at}
use Rattle.kt_stream.specs.declared.entry.Pair.{Pair}
use Rattle.kt_runs.proofs.PairSumsLemmas.{pairs_more}
use Rattle.kt_runs.proofs.pair_sums.pairs_of.Goals as goal

pub loop-place-preserved : goal.loop-place-preserved
loop-place-preserved c =
    let place = c.loop-place.place in
    let sums = c.args.sums.now in
    c.in_ok-push_pair.ensures.ok ∙ (ap (λ (pairs : List Pair). pairs ++ cons_option (pair_of (sidx_at (c.args.least + place)) (slice_index sums place)) []) c.loop-place.invariant ∙ sym (pairs_more c.args.least sums place))
