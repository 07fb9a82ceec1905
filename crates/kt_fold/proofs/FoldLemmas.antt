-- Records are added to cells, one after the other.
use Rattle.std.proofs.Common.{◌≡◌, ◌⊎◌, ◌<◌, ◌+◌, ℕ, List, [], ◌∷◌, ◌++◌, length, map, take, drop, slice_index_or, Option, Some, None, Ok, Err, refl, sym, ap, subst, ◌∙◌, append_assoc, append-nil, inl, inr}
use Rattle.std.specs.List.{flat_map}
use Rattle.std.specs.Option.{option_or}
use Rattle.std.proofs.lemmas.Grind.{flat_map-append}
use Rattle.std.proofs.lemmas.List.Concat.{flat_map-cons}
use Rattle.kt_period_cells.specs.Journal.{Adds}
use Rattle.kt_cell.specs.Losses.{Added, KeyLoss, all_losses, losses_of}
use Rattle.kt_cell.specs.Standing.{KeptCells, StandsFor, first_stop, or_else}
use Rattle.kt_period_cells.proofs.Walks.{all_losses_push, first_stop_append, neither_stops}
use Rattle.kt_cell.specs.declared.cell.CellStop.{CellStop}
use Rattle.kt_cell.specs.declared.cell.CellStop.TheVariants as cell_stop
use Rattle.kt_ends.specs.declared.status.Refusal.{Refusal}
use Rattle.kt_block.specs.declared.block.Summaries.{Summaries}
use Rattle.kt_periods.specs.Adding.{cell_refusal, first_refusal, refusal_of}
use Rattle.kt_rec.specs.Rows.{Rows}
use Rattle.kt_rec.specs.declared.periods.Occurrence.{Occurrence}
use Rattle.kt_stream.specs.declared.entry.SummaryRecord.{SummaryRecord}
use Rattle.kt_tables.specs.Lookups.{occurrences_of}
use Rattle.kt_fold.specs.Added.{record_added, summaries_added}
use Rattle.kt_fold.specs.Folds.{StopsAdding, fold_refusal}
use Rattle.kt_fold.specs.Limits.{stop_of_cells}
use Rattle.kt_fold.proofs.ListLemmas.{around, one_taken}
use Rattle.kt_fold.specs.AddedLaws.{none_of_both, some_of_first, some_of_second}

-- records were added, none of which was refused
pub record HasAdded (history added : List Added) (cells : KeptCells) : Type 0 where
  pub clear : first_refusal history added ≡ None
  pub stands : StandsFor (history ++ added) cells

pub none_added : (history : List Added) (cells : KeptCells) → StandsFor history cells → HasAdded history [] cells
none_added history cells stands = record { clear = refl; stands = subst (λ (h : List Added). StandsFor h cells) (sym (append-nil history)) stands }

-- more records were added behind others
pub added_more : (history first second : List Added) (between cells : KeptCells) → HasAdded history first between → (first_refusal (history ++ first) second ≡ None) × StandsFor ((history ++ first) ++ second) cells → HasAdded history (first ++ second) cells
added_more history first second between cells one other = record {
  clear = none_of_both history first second one.clear other.0;
  stands = subst (λ (h : List Added). StandsFor h cells) (append_assoc history first second) other.1;
}

-- all were added
pub all_added : (history added : List Added) (cells : KeptCells) → HasAdded history added cells → (first_refusal history added ≡ None) × StandsFor (history ++ added) cells
all_added history added cells has = (has.clear, has.stands)

-- one of the records behind others stops it
pub stops_more : (history first second : List Added) (cells : KeptCells) (why : Option Refusal) → HasAdded history first cells → StopsAdding (history ++ first) second why → StopsAdding history (first ++ second) why
stops_more history first second cells None one stops = tt
stops_more history first second cells (Some why) one stops = some_of_second history first second why one.clear stops

-- and so do all records with those behind it
pub stops_with : (history first second : List Added) (why : Option Refusal) → StopsAdding history first why → StopsAdding history (first ++ second) why
stops_with history first second None stops = tt
stops_with history first second (Some why) stops = some_of_first history first second why stops

-- ---- one record

-- one record was added
pub one_added : (history : List Added) (added : Added) (cells : KeptCells) → (first_stop (all_losses history) (losses_of added) ≡ None) × StandsFor (history ++ added ∷ []) cells → (first_refusal history (added ∷ []) ≡ None) × StandsFor (history ++ added ∷ []) cells
one_added history added cells is = (ap (λ (stop : Option CellStop). option_or (refusal_of added.entry.event stop) None) is.0, is.1)

-- one record is refused, or memory is wanting
pub one_stops : (history : List Added) (added : Added) (stop : CellStop) → (stop ≡ cell_stop.OutOfMemory) ⊎ (first_stop (all_losses history) (losses_of added) ≡ Some stop) → StopsAdding history (added ∷ []) (cell_refusal added.entry.event stop)
one_stops history added (cell_stop.Cells held) (inl other) = cc
one_stops history added (cell_stop.Cells held) (inr is) = ap (λ (found : Option CellStop). option_or (refusal_of added.entry.event found) None) is
one_stops history added (cell_stop.Period key held more) (inl other) = cc
one_stops history added (cell_stop.Period key held more) (inr is) = ap (λ (found : Option CellStop). option_or (refusal_of added.entry.event found) None) is
one_stops history added cell_stop.OutOfMemory why = tt

-- the stop of the fold refuses the run as that of the cells does
pub refusal_same : (event : ℕ) (stop : CellStop) → fold_refusal (stop_of_cells event stop) ≡ cell_refusal event stop
refusal_same event (cell_stop.Cells held) = refl
refusal_same event (cell_stop.Period key held more) = refl
refusal_same event cell_stop.OutOfMemory = refl

-- records that are added one after the other are not refused where none of their losses is
pub none_refused : (history more : List Added) → first_stop (all_losses history) (all_losses more) ≡ None → first_refusal history more ≡ None
none_refused history [] clear = refl
none_refused history (one ∷ more) clear =
    let split = sym (ap (first_stop (all_losses history)) (flat_map-cons losses_of one more) ∙ first_stop_append (all_losses history) (losses_of one) (all_losses more)) ∙ clear in
    let parts = neither_stops (first_stop (all_losses history) (losses_of one)) (first_stop (all_losses history ++ losses_of one) (all_losses more)) split in
    let behind : first_stop (all_losses (history ++ one ∷ [])) (all_losses more) ≡ None = ap (λ (before : List KeyLoss). first_stop before (all_losses more)) (all_losses_push history one) ∙ parts.1 in
    ap (λ (stop : Option CellStop). option_or (refusal_of one.entry.event stop) (first_refusal (history ++ one ∷ []) more)) parts.0 ∙ none_refused (history ++ one ∷ []) more behind

-- the first records of summaries
abbrev pub front_added : Rows → Summaries → ℕ → List Added
front_added rows summaries many = map (record_added rows summaries) (take many summaries.records)

-- ---- what is made of each of a list is added, one after the other

module _ {X : Type 0} (made : X → List Added) (xs : List X) (i : ℕ) (x : X) (below : i < length xs) (is : x ≡ slice_index_or xs i x) where
  -- those of the first so many
  abbrev front : ℕ → List Added
  front many = flat_map made (take many xs)

  front_more : front (i + 1) ≡ front i ++ made x
  front_more =
      ap (flat_map made) (one_taken xs i x below is) ∙ flat_map-append made (take i xs) (x ∷ []) ∙ ap (λ (more : List Added). front i ++ more) (append-nil (made x))

  front_whole : flat_map made xs ≡ front (i + 1) ++ flat_map made (drop (i + 1) xs)
  front_whole =
      ap (flat_map made) (around xs i x below is) ∙ flat_map-append made (take i xs ++ x ∷ []) (drop (i + 1) xs)
      ∙ ap (λ (ys : List X). flat_map made ys ++ flat_map made (drop (i + 1) xs)) (sym (one_taken xs i x below is))

  pub each_added : (history : List Added) (between cells : KeptCells) → HasAdded history (flat_map made (take i xs)) between → (first_refusal (history ++ flat_map made (take i xs)) (made x) ≡ None) × StandsFor ((history ++ flat_map made (take i xs)) ++ made x) cells → HasAdded history (flat_map made (take (i + 1) xs)) cells
  each_added history between cells before more = subst (λ (added : List Added). HasAdded history added cells) (sym front_more) (added_more history (front i) (made x) between cells before more)

  pub each_stops : (history : List Added) (between : KeptCells) (why : Option Refusal) → HasAdded history (flat_map made (take i xs)) between → StopsAdding (history ++ flat_map made (take i xs)) (made x) why → StopsAdding history (flat_map made xs) why
  each_stops history between why before stops =
      subst (λ (added : List Added). StopsAdding history added why) (sym front_whole)
      (stops_with history (front (i + 1)) (flat_map made (drop (i + 1) xs)) why
      (subst (λ (added : List Added). StopsAdding history added why) (sym front_more) (stops_more history (front i) (made x) between why before stops)))

-- ---- the records of summaries

module _ (rows : Rows) (summaries : Summaries) where
  -- the records one by one
  singles : (entries : List SummaryRecord) → map (record_added rows summaries) entries ≡ flat_map (λ entry. record_added rows summaries entry ∷ []) entries
  singles [] = refl
  singles (entry ∷ entries) = ap (λ (more : List Added). record_added rows summaries entry ∷ more) (singles entries)

  -- a record with the occurrences that were found
  abbrev found : SummaryRecord → List Occurrence → Added
  found entry at = record { perspective = summaries.perspective; set = summaries.set; entry = entry; at = at }

  module _ (i : ℕ) (entry : SummaryRecord) (at : List Occurrence) (below : i < length summaries.records) (is : entry ≡ slice_index_or summaries.records i entry) (at_is : at ≡ occurrences_of rows entry.event) where
    pub entry_added : (history : List Added) (between cells : KeptCells) → HasAdded history (front_added rows summaries i) between → Adds (history ++ front_added rows summaries i) (found entry at) (Ok tt) cells → HasAdded history (front_added rows summaries (i + 1)) cells
    entry_added history between cells before adds =
        let one = subst (λ (h : List Added). HasAdded history h between) (singles (take i summaries.records)) before in
        let here = subst (λ (h : List Added). Adds (history ++ h) (found entry at) (Ok tt) cells) (singles (take i summaries.records)) adds in
        let there = subst (λ (a : List Occurrence). Adds (history ++ flat_map (λ e. record_added rows summaries e ∷ []) (take i summaries.records)) (found entry a) (Ok tt) cells) at_is here in
        subst (λ (h : List Added). HasAdded history h cells) (sym (singles (take (i + 1) summaries.records)))
        (each_added (λ e. record_added rows summaries e ∷ []) summaries.records i entry below is history between cells one (one_added (history ++ flat_map (λ e. record_added rows summaries e ∷ []) (take i summaries.records)) (record_added rows summaries entry) cells there))

    pub entry_stops : (history : List Added) (between cells : KeptCells) (stop : CellStop) → HasAdded history (front_added rows summaries i) between → Adds (history ++ front_added rows summaries i) (found entry at) (Err stop) cells → StopsAdding history (summaries_added rows summaries) (cell_refusal entry.event stop)
    entry_stops history between cells stop before adds =
        let one = subst (λ (h : List Added). HasAdded history h between) (singles (take i summaries.records)) before in
        let here = subst (λ (h : List Added). Adds (history ++ h) (found entry at) (Err stop) cells) (singles (take i summaries.records)) adds in
        let there = subst (λ (a : List Occurrence). Adds (history ++ flat_map (λ e. record_added rows summaries e ∷ []) (take i summaries.records)) (found entry a) (Err stop) cells) at_is here in
        subst (λ (h : List Added). StopsAdding history h (cell_refusal entry.event stop)) (sym (singles summaries.records))
        (each_stops (λ e. record_added rows summaries e ∷ []) summaries.records i entry below is history between (cell_refusal entry.event stop) one (one_stops (history ++ flat_map (λ e. record_added rows summaries e ∷ []) (take i summaries.records)) (record_added rows summaries entry) stop there.0))
