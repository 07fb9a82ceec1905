-- The records of summaries are one run: of the event of the run, and by strictly rising summaries.
use Rattle.std.proofs.Common.{◌≡◌, ℕ, List, [], ◌∷◌, map, Option, Some, sym, ap, subst, arith}
use Rattle.std.specs.Prelude.{All}
use Rattle.std.specs.List.Sorted.{IsStrictlyIncreasing}
use Rattle.std.proofs.lemmas.List.Elements.{All-from_recursion}
use Rattle.kt_rec.specs.Rising.{IsRising, rising, rising-rises}
use Rattle.kt_runs.specs.RunLaws.{Climbs, increasing, made_all, made_climbs}
use Rattle.kt_runs.specs.RunLosses.{event_of, run_loss}
use Rattle.kt_runs.specs.Sidx.{pairs_of}
use Rattle.kt_stream.specs.declared.entry.LossRecord.{LossRecord}
use Rattle.kt_stream.specs.declared.entry.Pair.{Pair}
use Rattle.kt_stream.specs.declared.entry.SummaryRecord.{SummaryRecord}
use Rattle.kt_sum.specs.Summaries.{found_summaries, members, record_with, sidx_range, summaries_by, summary_of_run}

-- a record has the event and the summary that it is made with
made_with : (event summary exposure : ℕ) (pairs : List Pair) (entry : SummaryRecord) → record_with event summary exposure pairs ≡ Some entry → (entry.event ≡ event) × (entry.summary ≡ summary)
made_with event summary exposure [] entry is = absurd cc
made_with event summary exposure (pair ∷ pairs) entry is =
    (sym (ap (λ (entry : SummaryRecord). entry.event) (same _ entry is)), sym (ap (λ (entry : SummaryRecord). entry.summary) (same _ entry is)))
  where
    same : (x y : SummaryRecord) → Some x ≡ Some y → x ≡ y
    same x y is = cc

-- rising ids, each below those behind it
climbs_from : (ids : List ℕ) → IsRising ids → Climbs (λ id. id) ids
unfolding IsRising
climbs_from [] rises = tt
climbs_from (id ∷ ids) rises = (rises.0, climbs_from ids rises.1)

module _ (find : ℕ → Option ℕ) (exposure : ℕ → ℕ) (records : List LossRecord) where
  -- a record is of the event of the run, and of its summary
  made_of : (summary : ℕ) (entry : SummaryRecord) → summary_of_run find exposure records summary ≡ Some entry → (entry.event ≡ event_of records) × (entry.summary ≡ summary)
  made_of summary entry is = made_with (event_of records) summary (exposure summary) (pairs_of (λ sidx. run_loss sidx (members find records summary)) (sidx_range records)) entry is

  -- all are of the event
  pub summaries_of_event : All (λ entry. entry.event ≡ event_of records) (summaries_by find exposure records)
  summaries_of_event =
      All-from_recursion (λ (entry : SummaryRecord). entry.event ≡ event_of records) (summaries_by find exposure records)
      (made_all (summary_of_run find exposure records) (λ entry. entry.event ≡ event_of records) (λ summary entry is. (made_of summary entry is).0) (rising (found_summaries find records)))

  -- and their summaries rise
  pub summaries_climb : IsStrictlyIncreasing (map (λ entry. entry.summary) (summaries_by find exposure records))
  summaries_climb =
      increasing (λ (entry : SummaryRecord). entry.summary) (summaries_by find exposure records)
      (made_climbs (summary_of_run find exposure records) (λ id. id) (λ entry. entry.summary) (λ summary entry is. (made_of summary entry is).1) (rising (found_summaries find records)) (climbs_from (rising (found_summaries find records)) (rising-rises (found_summaries find records))))

-- so they are of an event of which all records are
pub summaries_of_same : (find : ℕ → Option ℕ) (exposure : ℕ → ℕ) (records : List LossRecord) (event : ℕ) → All (λ entry. entry.event ≡ event) records → All (λ entry. entry.event ≡ event) (summaries_by find exposure records)
summaries_of_same find exposure [] event are = All-from_recursion (λ (entry : SummaryRecord). entry.event ≡ event) [] tt
summaries_of_same find exposure (entry ∷ records) event are =
    let first : entry.event ≡ event = are 0 entry (omega arith) in
    subst (λ event. All (λ (made : SummaryRecord). made.event ≡ event) (summaries_by find exposure (entry ∷ records))) first (summaries_of_event find exposure (entry ∷ records))
