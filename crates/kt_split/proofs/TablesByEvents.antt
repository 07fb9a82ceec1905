-- The tables of a summary stream, event by event.
use Rattle.std.proofs.Common.{◌≡◌, ℕ, ◌+◌, Bool, List, [], ◌∷◌, ◌++◌, length, map, Option, None, refl, ap, ◌∙◌, flat_map}
use Rattle.std.proofs.lemmas.Grind.{flat_map-append}
use Rattle.kt_cell.specs.Losses.{Added, all_losses}
use Rattle.kt_elt.specs.EventLoss.{event_loss_rows}
use Rattle.kt_elt.specs.PeriodLoss.{period_losses}
use Rattle.kt_ends.specs.declared.status.Refusal.{Refusal}
use Rattle.kt_ends.specs.declared.status.Status.TheVariants.{Done}
use Rattle.kt_loop.specs.Contents.{Contents}
use Rattle.kt_loop.specs.EventStreams.{FitsStream, ReadsBack, stream_bytes, stretch_is_read}
use Rattle.kt_loop.specs.ListLaws.{IsStretch}
use Rattle.kt_loop.specs.Outcome.{gives, stream_status}
use Rattle.kt_loop.specs.ByRecord.{table_of}
use Rattle.kt_periods.specs.Adding.{added_of, all_added, first_refusal}
use Rattle.kt_periods.specs.EventLossTable.{elt_heading_part, elt_outcome, elt_record_rows}
use Rattle.kt_periods.specs.PeriodLossTable.{heading_if, plt_heading_part, plt_outcome, plt_record_rows}
use Rattle.kt_periods.specs.PeriodTables.{contents_outcome, period_outcome, stream_table, table_unless}
use Rattle.kt_periods.specs.declared.table.PeriodTable.{PeriodTable}
use Rattle.kt_rec.specs.Rows.{Rows}
use Rattle.kt_stream.specs.Grammar.{placed_from}
use Rattle.kt_stream.specs.Header.{header_size}
use Rattle.kt_stream.specs.Stream.{Form}
use Rattle.kt_stream.specs.Summary.{IsSummary, summary_form, summary_shape}
use Rattle.kt_stream.specs.declared.entry.Placed.{Placed}
use Rattle.kt_stream.specs.declared.entry.SummaryRecord.{SummaryRecord}
use Rattle.kt_stream.specs.declared.kind.Head.{Head}
use Rattle.kt_stream.specs.declared.kind.StreamKind.TheVariants.{Summary}
use Rattle.kt_tables.specs.Lookups.{occurrences_of}
use Rattle.kt_tables.specs.Portfolio.{PortfolioRows}

module _ {E : Type 0} (form : Form E) where
  -- what is made of records does not depend on their places
  flat_placed : {A : Type 0} (f : E → List A) (at : ℕ) (xs : List E) → flat_map (λ (placed : Placed E). f placed.entry) (placed_from form at xs) ≡ flat_map f xs
  flat_placed f at [] = refl
  flat_placed {A} f at (x ∷ xs) = ap (λ (later : List A). f x ++ later) (flat_placed f (at + length (form.bytes x)) xs)

  map_placed : {A : Type 0} (f : E → A) (at : ℕ) (xs : List E) → map (λ (placed : Placed E). f placed.entry) (placed_from form at xs) ≡ map f xs
  map_placed f at [] = refl
  map_placed {A} f at (x ∷ xs) = ap (λ (later : List A). f x ∷ later) (map_placed f (at + length (form.bytes x)) xs)

-- lists that are made of lists, one behind the other
pub flat_flat : {E A : Type 0} (f : E → List A) (of : ℕ → List E) (events : List ℕ) → flat_map f (flat_map of events) ≡ flat_map (λ (event : ℕ). flat_map f (of event)) events
flat_flat f of [] = refl
flat_flat {E} {A} f of (event ∷ later) = flat_map-append f (of event) (flat_map of later) ∙ ap (λ (xs : List A). flat_map f (of event) ++ xs) (flat_flat f of later)

map_flat : {E A : Type 0} (f : E → A) (of : ℕ → List E) (events : List ℕ) → map f (flat_map of events) ≡ flat_map (λ (event : ℕ). map f (of event)) events
map_flat f of [] = refl
map_flat {E} {A} f of (event ∷ later) = map_joined (of event) (flat_map of later) ∙ ap (λ (xs : List A). map f (of event) ++ xs) (map_flat f of later)
  where
    map_joined : (xs ys : List E) → map f (xs ++ ys) ≡ map f xs ++ map f ys
    map_joined [] ys = refl
    map_joined (x ∷ xs) ys = ap (λ (zs : List A). f x ∷ zs) (map_joined xs ys)

module _ (head : Head) (of : ℕ → List SummaryRecord) (events : List ℕ) (reads : ReadsBack SummaryRecord summary_form (λ shape samples entry. IsSummary samples entry)) (fits : FitsStream SummaryRecord summary_form (λ shape samples entry. IsSummary samples entry) summary_shape head of events) (part : List ℕ) (stretch : IsStretch part events) where
  abbrev entries_at : List (Placed SummaryRecord)
  entries_at = placed_from summary_form (header_size Summary) (flat_map of part)

  -- the event loss table of a stretch of the events: its heading, and the rows of the records of each event
  pub elt_makes : (heading : Bool) → elt_outcome heading (stream_bytes summary_form summary_shape head of part) ≡ gives Done (elt_heading_part heading head ++ flat_map (λ (event : ℕ). flat_map (event_loss_rows head.samples) (of event)) part)
  elt_makes heading =
      ap (λ (contents : Contents Head SummaryRecord). gives (stream_status contents.fault) (table_of elt_heading_part elt_record_rows heading contents.head contents.entries))
      (stretch_is_read summary_form (λ shape samples entry. IsSummary samples entry) summary_shape head of events fits part stretch reads)
      ∙ ap (λ (text : List ℕ). gives Done (elt_heading_part heading head ++ text))
      (flat_placed summary_form (event_loss_rows head.samples) (header_size Summary) (flat_map of part) ∙ flat_flat (event_loss_rows head.samples) of part)

  -- the same of the period loss table
  pub plt_makes : (heading : Bool) (portfolio : PortfolioRows) → plt_outcome heading portfolio (stream_bytes summary_form summary_shape head of part)
      ≡ gives Done (heading_if heading ++ flat_map (λ (event : ℕ). flat_map (λ (entry : SummaryRecord). period_losses head.samples entry (occurrences_of portfolio.rows entry.event)) (of event)) part)
  plt_makes heading portfolio =
      let rows_of : SummaryRecord → List ℕ = λ entry. period_losses head.samples entry (occurrences_of portfolio.rows entry.event) in
      ap (λ (contents : Contents Head SummaryRecord). gives (stream_status contents.fault) (table_of plt_heading_part plt_record_rows (heading, portfolio) contents.head contents.entries))
      (stretch_is_read summary_form (λ shape samples entry. IsSummary samples entry) summary_shape head of events fits part stretch reads)
      ∙ ap (λ (text : List ℕ). gives Done (heading_if heading ++ text))
      (flat_placed summary_form rows_of (header_size Summary) (flat_map of part) ∙ flat_flat rows_of of part)

  -- the records of each event, with its occurrences
  abbrev added_by : Rows → List Added
  added_by rows = flat_map (λ (event : ℕ). map (added_of rows head) (of event)) part

  added_are : (rows : Rows) → all_added rows head entries_at ≡ added_by rows
  added_are rows = map_placed summary_form (added_of rows head) (header_size Summary) (flat_map of part) ∙ map_flat (added_of rows head) of part

  -- the tables over all periods of a stretch of the events, where no record is refused
  pub periods_make : (kind : PeriodTable) (rows : Rows) → first_refusal [] (added_by rows) ≡ None → period_outcome kind rows (stream_bytes summary_form summary_shape head of part) ≡ gives Done (stream_table kind rows head (all_losses (added_by rows)))
  periods_make kind rows none =
      ap (contents_outcome kind rows) (stretch_is_read summary_form (λ shape samples entry. IsSummary samples entry) summary_shape head of events fits part stretch reads)
      ∙ ap (λ (added : List Added). table_unless (first_refusal [] added) None (stream_table kind rows head (all_losses added))) (added_are rows)
      ∙ ap (λ (refusal : Option Refusal). table_unless refusal None (stream_table kind rows head (all_losses (added_by rows)))) none
