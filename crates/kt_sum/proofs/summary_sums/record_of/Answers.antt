use Rattle.std.proofs.Common.{◌∙◌, ℕ, List, length, ap, arith, sym}
use Rattle.std.proofs.lemmas.Bool.{eqb-false, eqb-true}
use Rattle.kt_stream.specs.declared.entry.Pair.{Pair}
use Rattle.kt_runs.specs.PairSums.{pairs_upto}
use Rattle.kt_sum.specs.RunSummaries.{exposure_in}
use Rattle.kt_sum.proofs.SumsLemmas.{idle_none, no_record, some_record}
use Rattle.kt_sum.proofs.summary_sums.record_of.Goals as goal

pub returns-then-not-row : goal.returns-then-not-row
returns-then-not-row c = record { value = sym (idle_none c.args.run.now.event (exposure_in c.args.run.now) c.args.least c.args.row.now (c.requires.idle c.if-not-row.true)) }

pub returns-then-is_empty : goal.returns-then-is_empty
returns-then-is_empty c =
    let row = c.args.row.now in
    let run = c.args.run.now in
    let pairs_are = c.in_ok-pairs.ensures.value ∙ ap (λ (sums : List ℕ). pairs_upto c.args.least sums (length sums)) c.deref.ensures.value in
    record { value = no_record run.event row.summary (exposure_in run row.summary) (pairs_upto c.args.least row.sums.items (length row.sums.items)) c.in_ok-pairs.pairs pairs_are (ap (λ (pairs : List Pair). length pairs) (sym c.as_slice.ensures.value) ∙ eqb-true (length c.as_slice.result.now) 0 (sym c.is_empty.ensures ∙ c.if-is_empty.true)) }

pub returns : goal.returns
returns c =
    let row = c.args.row.now in
    let run = c.args.run.now in
    let pairs_are = c.in_ok-pairs.ensures.value ∙ ap (λ (sums : List ℕ). pairs_upto c.args.least sums (length sums)) c.deref.ensures.value in
    let some = eqb-false (length c.as_slice.result.now) 0 (sym c.is_empty.ensures ∙ c.if-is_empty.false) in
    record { value = some_record run.event row.summary (exposure_in run row.summary) c.exposure.result (pairs_upto c.args.least row.sums.items (length row.sums.items)) c.in_ok-pairs.pairs c.exposure.ensures.value pairs_are (omega (arith, some, ap (λ (pairs : List Pair). length pairs) c.as_slice.ensures.value)) }
