-- The table that is made step by step is the table of all records.
use Rattle.std.proofs.Common.{◌≡◌, List, [], ◌∷◌, ◌++◌, Option, Some, None, Ok, Err, refl, ap, sym, ◌∙◌, append_assoc, append-nil}
use Rattle.std.specs.Option.{option_or}
use Rattle.kt_cell.specs.Losses.{Added, all_losses}
use Rattle.kt_ends.specs.declared.status.Refusal.{Refusal}
use Rattle.kt_loop.specs.Calculation.{Course, behind, took_all}
use Rattle.kt_loop.specs.Contents.{Contents}
use Rattle.kt_loop.specs.Outcome.{ended_by, outcome}
use Rattle.kt_periods.specs.Adding.{added_of, all_added, record_refusal, first_refusal}
use Rattle.kt_periods.specs.PeriodTables.{PeriodSums, added_unless, period_calculation, stream_table, table_unless, table_of_records, contents_outcome}
use Rattle.kt_periods.specs.declared.table.PeriodTable.{PeriodTable}
use Rattle.kt_rec.specs.Rows.{Rows}
use Rattle.kt_stream.specs.declared.entry.Placed.{Placed}
use Rattle.kt_stream.specs.declared.entry.SummaryRecord.{SummaryRecord}
use Rattle.kt_stream.specs.declared.kind.Head.{Head}
use Rattle.kt_stream.specs.declared.stop.StreamStop.{StreamStop}

module _ (kind : PeriodTable) (rows : Rows) where
  -- these records were added
  abbrev pub sums_of : List Added → PeriodSums
  sums_of history = record { kind = kind; rows = rows; history = history }

  -- nothing is written, and these records were added unless one was refused
  abbrev comes_to : List Added → Option Refusal → Course PeriodSums Refusal
  comes_to history None = record { text = []; reached = Ok (sums_of history) }
  comes_to history (Some refusal) = record { text = []; reached = Err refusal }

  -- after a refusal there is no record
  refused_stays : (head : Head) (refusal : Refusal) (entries : List (Placed SummaryRecord)) → took_all period_calculation head (comes_to [] (Some refusal)) entries ≡ comes_to [] (Some refusal)
  refused_stays head refusal [] = refl
  refused_stays head refusal (placed ∷ later) = refused_stays head refusal later

  -- one record, and then those behind it
  takes_one : (head : Head) (before rest : List Added) (added : Added) (later : List (Placed SummaryRecord)) (then : Option Refusal)
      → took_all period_calculation head (comes_to (before ++ added ∷ []) None) later ≡ comes_to ((before ++ added ∷ []) ++ rest) then
      → (why : Option Refusal) → took_all period_calculation head (behind [] (record { text = []; next = added_unless (sums_of before) added why })) later ≡ comes_to (before ++ added ∷ rest) (option_or why then)
  takes_one head before rest added later then further None = further ∙ ap (λ (history : List Added). comes_to history then) (append_assoc before (added ∷ []) rest)
  takes_one head before rest added later then further (Some refusal) = refused_stays head refusal later

  takes_all : (head : Head) (before : List Added) (entries : List (Placed SummaryRecord)) → took_all period_calculation head (comes_to before None) entries ≡ comes_to (before ++ all_added rows head entries) (first_refusal before (all_added rows head entries))
  takes_all head before [] = ap (λ (history : List Added). comes_to history None) (sym (append-nil before))
  takes_all head before (placed ∷ later) =
      let added = added_of rows head placed.entry in
      takes_one head before (all_added rows head later) added later (first_refusal (before ++ added ∷ []) (all_added rows head later)) (takes_all head (before ++ added ∷ []) later) (record_refusal before added)

  -- the end behind all records
  ends : (head : Head) (fault : Option StreamStop) (history : List Added) (why : Option Refusal) → ended_by period_calculation (Some head) fault (comes_to history why).text (comes_to history why).reached ≡ table_unless why fault (stream_table kind rows head (all_losses history))
  ends head fault history (Some refusal) = refl
  ends head (Some stop) history None = refl
  ends head None history None = refl

  by_head : (head : Option Head) (entries : List (Placed SummaryRecord)) (fault : Option StreamStop) → outcome period_calculation (sums_of []) (record { head = head; entries = entries; fault = fault }) ≡ table_of_records kind rows head entries fault
  by_head None entries (Some stop) = refl
  by_head None entries None = refl
  by_head (Some head) entries fault =
      ap (λ (course : Course PeriodSums Refusal). ended_by period_calculation (Some head) fault course.text course.reached) (takes_all head [] entries)
      ∙ ends head fault (all_added rows head entries) (first_refusal [] (all_added rows head entries))

  -- step by step is as a whole
  pub whole : (contents : Contents Head SummaryRecord) → outcome period_calculation (sums_of []) contents ≡ contents_outcome kind rows contents
  whole contents = by_head contents.head contents.entries contents.fault
