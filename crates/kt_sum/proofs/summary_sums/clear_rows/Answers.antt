use Rattle.std.proofs.Common.{◌<◌, ◌∙◌, ℕ, List, length, take, slice_set, add-one, ap, arith, refl, subst, sym}
use Rattle.std.specs.Prelude.{All}
use Rattle.std.proofs.Math.Seq.{map-set_same, take-suc-set}
use Rattle.std.proofs.lemmas.List.{take_all}
use Rattle.std.proofs.lemmas.List.Elements.{All-push, All-set}
use Rattle.kt_sum.specs.RunSummaries.{IsIdle, IsReadyRow, IsZeroRow}
use Rattle.kt_sum.specs.declared.summary_sums.SummarySums.{SummarySums}
use Rattle.kt_sum.proofs.RunSumsLemmas.{zero_ready}
use Rattle.kt_sum.proofs.summary_sums.clear_rows.Goals as goal

pub loop-place-init : goal.loop-place-init
loop-place-init c = record { idle = c.requires.idle; summaries = refl; ready = λ width ready. ready; zeros = λ width ready k d below. absurd (omega arith) }

pub clear-requires : goal.clear-requires
clear-requires c = record { idle = c.loop-place.invariant.idle c.loop-place.place c.index-rows-place.result (omega (arith, c.loop-place-test.true, c.loop-place.auto.rows)) }

pub loop-place-preserved : goal.loop-place-preserved
loop-place-preserved c =
    let rows = c.loop-place.rows in
    let place = c.loop-place.place in
    let item = c.index-rows-place.result in
    let now = c.clear.new.row in
    let here = c.loop-place.invariant in
    let below : place < length rows = omega (arith, c.loop-place-test.true, c.loop-place.auto.rows) in
    let zero = λ (width : ℕ) (ready : All (IsReadyRow width) c.args.rows.now). subst (λ n. IsZeroRow n now) (here.ready width ready place item below).width_is c.clear.ensures.zeros in
    record {
      idle = All-set IsIdle rows place now (zero_ready _ now c.clear.ensures.zeros).idle here.idle;
      summaries = map-set_same (λ (row : SummarySums). row.summary) rows place now item c.clear.ensures.summary ∙ here.summaries;
      ready = λ width ready. All-set (IsReadyRow width) rows place now (zero_ready width now (zero width ready)) (here.ready width ready);
      zeros = λ width ready.
          subst (λ (rows : List SummarySums). All (IsZeroRow width) rows) (sym (ap (λ n. take n (slice_set rows place now)) (add-one place) ∙ take-suc-set rows place now below))
          (All-push (IsZeroRow width) (take place rows) now (here.zeros width ready) (zero width ready));
    }

pub returns : goal.returns
returns c = record {
  summaries = c.loop-place.invariant.summaries;
  zeros = λ width ready. subst (λ (rows : List SummarySums). All (IsZeroRow width) rows) (take_all c.loop-place.place c.loop-place.rows (omega (arith, c.loop-place-test.false, c.loop-place.auto.rows))) (c.loop-place.invariant.zeros width ready);
}
