-- The summaries of a run: what the losses of its records come to in each summary of a set.
-- The rules: docs/CALCULATION.md, "Summaries"; docs/STREAMS.md, "Records".
use Rattle.std.specs.Prelude.{ℕ, ◌+◌, ◌-◌, Bool, false, nat_eq, min, max, ℤ, List, [], ◌∷◌, map, Option, None, Some}
use Rattle.std.specs.List.{filter, filter_map, flat_map, fold, range_with_len}
use Rattle.kt_rec.specs.Rising.{rising}
use Rattle.kt_rec.specs.Rows.{Rows}
use Rattle.kt_rec.specs.declared.perspective.Perspective.{Perspective}
use Rattle.kt_stream.specs.declared.entry.LossRecord.{LossRecord}
use Rattle.kt_stream.specs.declared.entry.Pair.{Pair}
use Rattle.kt_stream.specs.declared.entry.SummaryRecord.{SummaryRecord}
use Rattle.kt_tables.specs.Lookups.{exposure_of, summary_in}
use Rattle.kt_runs.specs.RunLosses.{event_of, run_loss}
use Rattle.kt_runs.specs.Sidx.{pairs_of, place_of, sidx_at}

-- ---- the sidx of records

-- the places of the sidx that pairs have
abbrev pub pair_places : List Pair → List ℕ
pair_places pairs = map (λ pair. place_of pair.sidx) pairs

-- the places of the sidx that records have
abbrev pub places : List LossRecord → List ℕ
places records = flat_map (λ entry. pair_places entry.pairs) records

-- the least of a list of places
abbrev pub least_place : List ℕ → ℕ
least_place list = fold min 4294967296 list

-- the place behind the greatest of a list
abbrev pub end_place : List ℕ → ℕ
end_place list = fold (λ last place. max last (place + 1)) 0 list

-- the sidx from the least that records have to the greatest, rising
abbrev pub sidx_range : List LossRecord → List ℤ
sidx_range records = map sidx_at (range_with_len (least_place (places records)) (end_place (places records) - least_place (places records)))

-- ---- the records of summaries

-- whether a summary that may be absent is this one
abbrev pub is_summary : ℕ → Option ℕ → Bool
is_summary summary None = false
is_summary summary (Some other) = nat_eq other summary

-- the records that come to a summary, where the summary of an id is found so
abbrev pub members : (ℕ → Option ℕ) → List LossRecord → ℕ → List LossRecord
members find records summary = filter (λ entry. is_summary summary (find entry.id)) records

-- the summaries to which records come
abbrev pub found_summaries : (ℕ → Option ℕ) → List LossRecord → List ℕ
found_summaries find records = filter_map (λ entry. find entry.id) records

-- the record of a summary, where there are pairs
abbrev pub record_with : ℕ → ℕ → ℕ → List Pair → Option SummaryRecord
record_with event summary exposure [] = None
record_with event summary exposure (pair ∷ pairs) = Some (record { event = event; summary = summary; exposure = exposure; pairs = pair ∷ pairs })

-- the record of a summary: at each sidx the losses of the records that come to it, added
abbrev pub summary_of_run : (ℕ → Option ℕ) → (ℕ → ℕ) → List LossRecord → ℕ → Option SummaryRecord
summary_of_run find exposure records summary =
    record_with (event_of records) summary (exposure summary) (pairs_of (λ sidx. run_loss sidx (members find records summary)) (sidx_range records))

-- the records of all summaries to which records come, by rising id
abbrev pub summaries_by : (ℕ → Option ℕ) → (ℕ → ℕ) → List LossRecord → List SummaryRecord
summaries_by find exposure records = filter_map (summary_of_run find exposure records) (rising (found_summaries find records))

-- the records of the summaries of a set, where outputs are for items, or by rule 0 for units of the top level
abbrev pub run_summaries : Perspective → Rows → ℕ → ℕ → List LossRecord → List SummaryRecord
run_summaries perspective rows rule set records = summaries_by (summary_in perspective rows set) (exposure_of perspective rows rule set) records
