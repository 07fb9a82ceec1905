-- The records of one set of a run, among all that its events add.
-- The rules: docs/OUTPUTS.md, "Files of a run"; docs/COMMANDS.md, "aalcalc" and "leccalc".
use Rattle.std.specs.Prelude.{◌≡◌, ◌&&◌, ◌||◌, ℕ, nat_eq, Bool, true, false, cond, List, [], ◌∷◌, ◌++◌, map, refl, Some, None, if◌then◌else◌}
use Rattle.std.specs.List.{flat_map, list_any}
use Rattle.std.proofs.Common.{sym, subst, ap, ◌∙◌, append-nil}
use Rattle.std.proofs.lemmas.Bool.{and_from, and_parts, eq-eqb, or_parts}
use Rattle.std.proofs.lemmas.Bool.Decides.{Decides-eqb}
use Rattle.std.proofs.lemmas.Grind.{flat_map-append}
use Rattle.std.proofs.lemmas.List.{map-append}
use Rattle.std.proofs.lemmas.Simd.{map-map}
use Rattle.kt_cell.specs.Losses.{Added, all_losses, same_perspective}
use Rattle.kt_curve.specs.OwnLosses.{own_record, own_records}
use Rattle.kt_cell.specs.SameKeys.{perspective_same, same_perspective_itself}
use Rattle.kt_ends.specs.declared.status.Status.TheVariants.{Done}
use Rattle.kt_event.specs.Losses.{ground_up_of, set_summaries}
use Rattle.kt_block.specs.Terms.{run_sets}
use Rattle.kt_block.specs.declared.block.Summaries.{Summaries}
use Rattle.kt_block.specs.declared.terms.SummarySet.{SummarySet}
use Rattle.kt_files.specs.DistinctNames.{every_set, run_sets_are_some}
use Rattle.kt_files.specs.Parts.{is_of_set, records_of_set}
use Rattle.kt_files.specs.Sublists.{IsSublist, none, left_out, kept}
use Rattle.kt_files.specs.declared.file.OutputFile.TheVariants.{OfSet}
use Rattle.kt_files.specs.declared.file.SetTable.{SetTable}
use Rattle.kt_files.specs.declared.file.SetTable.TheVariants.{AverageAnnualLoss as AverageTable, ExceedanceCurve as CurveTable}
use Rattle.kt_loop.specs.Outcome.{gives}
use Rattle.kt_periods.specs.Adding.{added_of, all_added as stream_added}
use Rattle.kt_periods.specs.OwnTables.{own_stream}
use Rattle.kt_periods.specs.PeriodTables.{contents_outcome, table_text}
use Rattle.kt_periods.specs.declared.table.PeriodTable.{PeriodTable}
use Rattle.kt_periods.specs.declared.table.PeriodTable.TheVariants.{AverageAnnualLoss, ExceedanceCurve}
use Rattle.kt_rec.specs.Rows.{Rows}
use Rattle.kt_rec.specs.declared.perspective.Perspective.{Perspective}
use Rattle.kt_rec.specs.declared.perspective.Perspective.TheVariants.{Gul}
use Rattle.kt_stream.specs.declared.entry.Placed.{Placed}
use Rattle.kt_stream.specs.declared.entry.SummaryRecord.{SummaryRecord}
use Rattle.kt_stream.specs.declared.kind.Head.{Head}
use Rattle.kt_tables.specs.Lookups.{event_ids, occurrences_of, return_periods_of}
use Rattle.kt_chain.specs.DoneLaws.{RefusesNothing, refuses_nothing}
use Rattle.kt_chain.specs.Events.{RunInput, all_added, block_of, event_added, foot_of}
use Rattle.kt_fold.specs.Added.{record_added, summaries_added}
use Rattle.kt_chain.specs.Files.{text_whole}
use Rattle.kt_chain.specs.Outcome.{chain_outcome}
use Rattle.kt_chain.specs.RunLaws.{averages_empty, curves_empty}

-- the records of a set that an event gives
abbrev pub set_records : RunInput → SummarySet → ℕ → List SummaryRecord
set_records run set event = records_of_set set (block_of run event).summaries

-- the table over all periods that a stream of a set gives, as a file of a run
abbrev pub file_table : PeriodTable → SetTable
file_table AverageAnnualLoss = AverageTable
file_table (ExceedanceCurve curve) = CurveTable curve

-- ---- no set comes twice

-- whether two sets are the same
abbrev same_set : SummarySet → SummarySet → Bool
same_set one other = same_perspective one.perspective other.perspective && nat_eq one.set other.set

-- no two of some sets are the same
abbrev AreApart : List SummarySet → Type 0
AreApart [] = Unit {0}
AreApart (one ∷ sets) = (list_any (same_set one) sets ≡ false) × AreApart sets

-- the test of it
abbrev are_apart : List SummarySet → Bool
are_apart [] = true
are_apart (one ∷ sets) = cond (list_any (same_set one) sets) false (are_apart sets)

apart_by_test : (sets : List SummarySet) → are_apart sets ≡ true → AreApart sets
apart_by_test [] is = tt
apart_by_test (one ∷ sets) is = by (list_any (same_set one) sets) refl is (apart_by_test sets)
  where
    by : (found : Bool) → list_any (same_set one) sets ≡ found → cond found false (are_apart sets) ≡ true → (are_apart sets ≡ true → AreApart sets) → AreApart (one ∷ sets)
    by true e h rest = cc
    by false e h rest = (e, rest h)

still_absent : {some all : List SummarySet} (one : SummarySet) → IsSublist SummarySet some all → list_any (same_set one) all ≡ false → list_any (same_set one) some ≡ false
still_absent one none absent = absent
still_absent one (left_out {all = all} other part) absent = still_absent one part (or_parts (same_set one other) (list_any (same_set one) all) absent).1
still_absent one (kept {some = some} {all = all} other part) absent =
    let parts = or_parts (same_set one other) (list_any (same_set one) all) absent in
    ap (λ (same : Bool). same || list_any (same_set one) some) parts.0 ∙ still_absent one part parts.1

still_apart : {some all : List SummarySet} → IsSublist SummarySet some all → AreApart all → AreApart some
still_apart none apart = apart
still_apart (left_out one part) apart = still_apart part apart.1
still_apart (kept one part) apart = (still_absent one part apart.0, still_apart part apart.1)

-- the sets of a run
run_sets_apart : (rows : Rows) (last : Perspective) → AreApart (run_sets rows last)
run_sets_apart rows last = still_apart (run_sets_are_some rows last) (apart_by_test every_set refl)

-- ---- the own records of a set

-- the records of a set among others, told as those of ground-up losses
abbrev own : SummarySet → List Added → List Added
own set history = own_records set.perspective set.set Gul history

module _ (rows : Rows) (set : SummarySet) (head : Head) (of : head.set ≡ set.set) where
  -- those of summaries, by whether they are of the set
  own_of_summaries : (summaries : Summaries) (here : Bool) → is_of_set set summaries ≡ here → (records : List SummaryRecord) → own set (map (record_added rows summaries) records) ≡ (if here then map (added_of rows head) records else [])
  own_of_summaries summaries true is [] = refl
  own_of_summaries summaries false is [] = refl
  own_of_summaries summaries true is (entry ∷ records) =
      let parts = and_parts (same_perspective summaries.perspective set.perspective) (nat_eq summaries.set set.set) is in
      let same : summaries.set ≡ head.set = (Decides-eqb summaries.set set.set).0 parts.1 ∙ sym of in
      ap (λ (b : Bool). (if b then record { perspective = Gul; set = summaries.set; entry = entry; at = occurrences_of rows entry.event } ∷ [] else []) ++ own set (map (record_added rows summaries) records)) is
      ∙ (ap (λ (n : ℕ). let one : Added = record { perspective = Gul; set = n; entry = entry; at = occurrences_of rows entry.event } in one ∷ own set (map (record_added rows summaries) records)) same
      ∙ ap (λ (rest : List Added). added_of rows head entry ∷ rest) (own_of_summaries summaries true is records))
  own_of_summaries summaries false is (entry ∷ records) =
      ap (λ (b : Bool). (if b then record { perspective = Gul; set = summaries.set; entry = entry; at = occurrences_of rows entry.event } ∷ [] else []) ++ own set (map (record_added rows summaries) records)) is
      ∙ own_of_summaries summaries false is records

-- the summaries of a set
abbrev summed : (SummarySet → List SummaryRecord) → SummarySet → Summaries
summed made one = record { perspective = one.perspective; set = one.set; records = made one }

-- a set that is not the same as one which is this one is another
others_differ : (set one other : SummarySet) → same_set one set ≡ true → same_set one other ≡ false → same_set other set ≡ false
others_differ set one other is apart = by (same_set other set) refl
  where
    by : (b : Bool) → same_set other set ≡ b → same_set other set ≡ false
    by false e = e
    by true e =
        let mine = and_parts (same_perspective one.perspective set.perspective) (nat_eq one.set set.set) is in
        let its = and_parts (same_perspective other.perspective set.perspective) (nat_eq other.set set.set) e in
        let seen : one.perspective ≡ other.perspective = perspective_same one.perspective set.perspective mine.0 ∙ sym (perspective_same other.perspective set.perspective its.0) in
        let numbered : one.set ≡ other.set = (Decides-eqb one.set set.set).0 mine.1 ∙ sym ((Decides-eqb other.set set.set).0 its.1) in
        let same : same_set one other ≡ true =
        and_from (same_perspective one.perspective other.perspective) (nat_eq one.set other.set)
        (subst (λ (p : Perspective). same_perspective one.perspective p ≡ true) seen (same_perspective_itself one.perspective)) (eq-eqb one.set other.set numbered) in
        let clash : true ≡ false = sym same ∙ apart in cc

module _ (rows : Rows) (set : SummarySet) (head : Head) (of : head.set ≡ set.set) (made : SummarySet → List SummaryRecord) where
  -- where a set was there, the others have none
  own_of_others : (one : SummarySet) → same_set one set ≡ true → (sets : List SummarySet) → list_any (same_set one) sets ≡ false → own set (flat_map (summaries_added rows) (map (summed made) sets)) ≡ []
  own_of_others one is [] absent = refl
  own_of_others one is (other ∷ sets) absent =
      let parts = or_parts (same_set one other) (list_any (same_set one) sets) absent in
      flat_map-append (own_record set.perspective set.set Gul) (summaries_added rows (summed made other)) (flat_map (summaries_added rows) (map (summed made) sets))
      ∙ (ap (λ (front : List Added). front ++ own set (flat_map (summaries_added rows) (map (summed made) sets))) (own_of_summaries rows set head of (summed made other) false (others_differ set one other is parts.0) (made other))
      ∙ own_of_others one is sets parts.1)

  -- the own records among summaries of sets of which no two are the same
  own_of_sets : (sets : List SummarySet) → AreApart sets → own set (flat_map (summaries_added rows) (map (summed made) sets)) ≡ map (added_of rows head) (records_of_set set (map (summed made) sets))
  own_of_sets [] apart = refl
  own_of_sets (one ∷ sets) apart =
      flat_map-append (own_record set.perspective set.set Gul) (summaries_added rows (summed made one)) (flat_map (summaries_added rows) (map (summed made) sets))
      ∙ by (is_of_set set (summed made one)) refl (own_of_sets sets apart.1)
    where
      by : (here : Bool) → is_of_set set (summed made one) ≡ here → own set (flat_map (summaries_added rows) (map (summed made) sets)) ≡ map (added_of rows head) (records_of_set set (map (summed made) sets)) →
          own set (summaries_added rows (summed made one)) ++ own set (flat_map (summaries_added rows) (map (summed made) sets)) ≡ map (added_of rows head) (if is_of_set set (summed made one) then made one else records_of_set set (map (summed made) sets))
      by true is rest =
          ap (λ (front : List Added). front ++ own set (flat_map (summaries_added rows) (map (summed made) sets))) (own_of_summaries rows set head of (summed made one) true is (made one))
          ∙ (ap (λ (behind : List Added). map (added_of rows head) (made one) ++ behind) (own_of_others one is sets apart.0)
          ∙ (append-nil (map (added_of rows head) (made one))
          ∙ sym (ap (λ (b : Bool). map (added_of rows head) (if b then made one else records_of_set set (map (summed made) sets))) is)))
      by false is rest =
          ap (λ (front : List Added). front ++ own set (flat_map (summaries_added rows) (map (summed made) sets))) (own_of_summaries rows set head of (summed made one) false is (made one))
          ∙ (rest ∙ sym (ap (λ (b : Bool). map (added_of rows head) (if b then made one else records_of_set set (map (summed made) sets))) is))

-- ---- a run

module _ (run : RunInput) (set : SummarySet) (head : Head) (of : head.set ≡ set.set) where
  -- the own records of a set among those of an event
  own_of_event : (event : ℕ) → own set (event_added run event) ≡ map (added_of run.rows head) (set_records run set event)
  own_of_event event =
      own_of_sets run.rows set head of (λ one. (set_summaries run.terms run.rows (ground_up_of run.terms run.rows event (foot_of run event)) one).records)
      (run_sets run.rows run.terms.last) (run_sets_apart run.rows run.terms.last)

  -- among those of events
  pub own_of_events : (events : List ℕ) → own_records set.perspective set.set Gul (all_added run events) ≡ map (added_of run.rows head) (flat_map (set_records run set) events)
  own_of_events [] = refl
  own_of_events (event ∷ events) =
      flat_map-append (own_record set.perspective set.set Gul) (event_added run event) (all_added run events)
      ∙ (ap (λ (front : List Added). front ++ own set (all_added run events)) (own_of_event event)
      ∙ (ap (λ (rest : List Added). map (added_of run.rows head) (set_records run set event) ++ rest) (own_of_events events)
      ∙ sym (map-append (added_of run.rows head) (set_records run set event) (flat_map (set_records run set) events))))

-- the text of a file of a set over all periods is its table among all records
whole_text : (run : RunInput) (set : SummarySet) (kind : PeriodTable) (events : List ℕ) → text_whole run events (OfSet set (file_table kind)) ≡ table_text kind set.perspective set.set run.rows.periods run.terms.samples (return_periods_of run.rows) (all_losses (all_added run events))
whole_text run set AverageAnnualLoss events = ap (λ (front : List ℕ). front ++ table_text AverageAnnualLoss set.perspective set.set run.rows.periods run.terms.samples (return_periods_of run.rows) (all_losses (all_added run events))) (averages_empty run events set)
whole_text run set (ExceedanceCurve curve) events = ap (λ (front : List ℕ). front ++ table_text (ExceedanceCurve curve) set.perspective set.set run.rows.periods run.terms.samples (return_periods_of run.rows) (all_losses (all_added run events))) (curves_empty run events set curve)

-- what a stream of the records of a set gives is the file of that set of a run that ended with all its tables
pub stream_gives_file : (run : RunInput) (set : SummarySet) (kind : PeriodTable) (head : Head) (entries : List (Placed SummaryRecord)) → (chain_outcome run).status ≡ Done → head.set ≡ set.set → head.samples ≡ run.terms.samples → map (λ placed. placed.entry) entries ≡ flat_map (set_records run set) (event_ids run.rows) →
    contents_outcome kind run.rows (record { head = Some head; entries = entries; fault = None }) ≡ gives Done (text_whole run (event_ids run.rows) (OfSet set (file_table kind)))
stream_gives_file run set kind head entries is of samples are =
    let events : List ℕ = event_ids run.rows in
    let history : List Added = all_added run events in
    let nothing : RefusesNothing run = refuses_nothing run is in
    let own_are : own_records set.perspective set.set Gul history ≡ stream_added run.rows head entries =
    own_of_events run set head of events ∙ (ap (map (added_of run.rows head)) (sym are) ∙ map-map (added_of run.rows head) (λ placed. placed.entry) entries) in
    own_stream kind run.rows set.perspective head entries history (subst (λ (n : ℕ). own_records set.perspective n Gul history ≡ stream_added run.rows head entries) (sym of) own_are) nothing.records
    ∙ (ap (λ (n : ℕ). gives Done (table_text kind set.perspective n run.rows.periods head.samples (return_periods_of run.rows) (all_losses history))) of
    ∙ (ap (λ (n : ℕ). gives Done (table_text kind set.perspective set.set run.rows.periods n (return_periods_of run.rows) (all_losses history))) samples
    ∙ ap (λ (text : List ℕ). gives Done text) (sym (whole_text run set kind events))))
