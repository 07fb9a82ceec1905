use Rattle.std.proofs.Common.{◌≡◌, ◌∙◌, length, refl, arith}
use Rattle.kt_runs.proofs.PairLemmas.{put-all, put-more, put-none}
use Rattle.kt_runs.proofs.pairs.lane_pairs.Goals as goal
use Rattle.kt_runs.proofs.pairs.lane_pairs.Goals.{then-place-len, else-place-len}

pub loop-row-init : goal.loop-row-init
loop-row-init c = record {
  count_is = omega (arith, c.in_ok-pairs.ensures.len, c.in_ok-pairs.pairs.ok, c.count_of.ensures.value);
  place_is = refl;
  pairs_are = refl;
}

pub loop-row-preserved : goal.loop-row-preserved
loop-row-preserved c = elim c.if-place-len.branch [
  | then-place-len w ↦ rw (w.pairs-is, w.place-is) (put-more c.args.lane.now c.loop-row.row c.loop-row.place c.loop-row.pairs.items c.loop-row.invariant w.put_pair-place.result w.put_pair-place.new.pairs.items w.put_pair-place.ensures.next w.put_pair-place.ensures.value w.put_pair-place.ensures.same)
  | else-place-len w ↦ rw (w.pairs-is, w.place-is) (put-none c.args.lane.now c.loop-row.row c.loop-row.place c.loop-row.pairs.items c.loop-row.invariant c.loop-row-test.true (omega (arith, w.if-place-len.false, c.len.ensures, c.loop-row.pairs.ok)))
]

pub returns : goal.returns
returns c =
    let end : c.loop-row.row ≡ length c.args.lane.now = omega (arith, c.loop-row-test.false, c.loop-row.auto.row-end) in
    record { value = c.from_vec.ensures.value ∙ put-all c.args.lane.now c.loop-row.row c.loop-row.place c.loop-row.pairs.items c.loop-row.invariant end }
