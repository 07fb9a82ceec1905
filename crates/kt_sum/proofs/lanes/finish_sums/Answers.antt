use Rattle.std.proofs.Common.{◌≡◌, ◌+◌, ◌<◌, ◌∙◌, List, false, length, map, take, ap, arith, subst, sym}
use Rattle.std.specs.Prelude.{All}
use Rattle.std.proofs.Math.Seq.{map-set_same}
use Rattle.std.proofs.lemmas.List.{take_all, take_more, take_more_set}
use Rattle.std.proofs.lemmas.List.Elements.{All-push, All-set}
use Rattle.kt_sum.specs.SetSums.{AreReady, HoldLanes}
use Rattle.kt_sum.specs.declared.set_sums.SetSums.{SetSums}
use Rattle.kt_sum.proofs.lanes.finish_sums.Goals as goal
use Rattle.kt_sum.proofs.lanes.finish_sums.Goals.{then-sums-at+in_ok-total, else-sums-at}

-- the sums of a set do not wait
abbrev IsDone : SetSums → Type 0
IsDone one = one.waits ≡ false

pub loop-at-preserved : goal.loop-at-preserved
loop-at-preserved c =
    let sums = c.loop-at.sums in
    let at = c.loop-at.at in
    let item = c.index-sums-at.result in
    let here = c.loop-at.invariant in
    let losses = c.args.losses.now in
    let count = length losses.records in
    let below : at < length sums = omega (arith, c.loop-at-test.true, c.loop-at.auto.sums) in
    elim c.if-sums-at.branch [
      | then-sums-at+in_ok-total w ↦ (
          let item = w.index-sums-at-then-sums-at.result in
          let now = w.finish.new.self in
          let ends = w.finish.ensures in
          record {
            sets = ap (λ (sums : List SetSums). map (λ one. one.set) sums) w.sums-is ∙ (map-set_same (λ (one : SetSums). one.set) sums at now item ends.set ∙ here.sets);
            ready = subst (λ (sums : List SetSums). All (AreReady losses) sums) (sym w.sums-is) (All-set (AreReady losses) sums at now ends.ready here.ready);
            done = subst (λ (sums : List SetSums). All IsDone (take (at + 1) sums)) (sym w.sums-is) (subst (λ (sums : List SetSums). All IsDone sums) (sym (take_more_set sums at now below)) (All-push IsDone (take at sums) now here.done ends.done));
            all = λ find are.
                let held = here.all find are in
                subst (λ (sums : List SetSums). All (HoldLanes find losses count) sums) (sym w.sums-is) (All-set (HoldLanes find losses count) sums at now (ends.all find (w.in_ok-total.ensures.value find held) (held at item below)) held);
          }
          )
      | else-sums-at w ↦ record {
        sets = ap (λ (sums : List SetSums). map (λ one. one.set) sums) w.sums-is ∙ here.sets;
        ready = subst (λ (sums : List SetSums). All (AreReady losses) sums) (sym w.sums-is) here.ready;
        done = subst (λ (sums : List SetSums). All IsDone (take (at + 1) sums)) (sym w.sums-is)
            (subst (λ (sums : List SetSums). All IsDone sums) (sym (take_more sums at item below)) (All-push IsDone (take at sums) _ here.done w.if-sums-at.false));
        all = λ find are. subst (λ (sums : List SetSums). All (HoldLanes find losses count) sums) (sym w.sums-is) (here.all find are);
      }
    ]

pub returns-clause-done : goal.returns-clause-done
returns-clause-done c = subst (λ (sums : List SetSums). All IsDone sums) (take_all c.loop-at.at c.loop-at.sums (omega (arith, c.loop-at-test.false, c.loop-at.auto.sums))) c.loop-at.invariant.done
