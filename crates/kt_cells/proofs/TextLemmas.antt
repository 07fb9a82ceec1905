-- The rows of a text: their ranges, what a sink takes of one, and how far one is read field by field.
use Rattle.std.proofs.Common.{◌≡◌, ◌<◌, ◌*◌, ℕ, Bool, List, length, sym, ◌+◌, ◌≤◌, true, false, [], ◌∷◌, ◌++◌, take, drop, get_or, refl, ap, ◌∙◌, arith, length-append, append_assoc}
use Rattle.std.specs.Prelude.{Result, Ok, Err, OnOk, IfErr, slice_set, ◌==◌, ◌≢◌}
use Rattle.kt_text.specs.Rows.{csv_rows}
use Rattle.kt_cells.specs.Laws.{TextsAreInRange}
use Rattle.kt_cells.specs.Ranges.{AreRows, AreInOrder, IsRow, FitsBytes}
use Rattle.kt_cells.specs.Texts.{text_value, text_rows}
use Rattle.kt_rec.specs.Kinds.{under}
use Rattle.kt_rec.specs.declared.kind.Kind.{Kind}
use Rattle.kt_cells.specs.declared.stop.TableStop.{TableStop}
use Rattle.kt_cells.proofs.KindLemmas.{text_value-range, IsRow-fits}
use Rattle.kt_cells.proofs.RangeLemmas.{rows-read, rows-range, not_below-above, row-read, row-range}
use Rattle.std.proofs.lemmas.Bool.{eq-eqb, ne_eqb}
use Rattle.std.proofs.lemmas.List.{append-nil, drop-append-le, take-append-le}
use Rattle.kt_text.specs.PlainText.{BeginsField, EndsField, IsField, StandsBehind}
use Rattle.kt_cells.specs.Reading.{and_then, row_values, rule_after, not_below}
use Rattle.kt_cells.specs.Fronts.{PlainRead}
use Rattle.kt_cells.specs.Stops.{Tells}
use Rattle.kt_cells.specs.Taking.{HasRow, HandsFront, HandsOver, TakesMore, front-over, front-tells}
use Rattle.kt_cells.proofs.ReadingLemmas.{behind-nil, row-more, row_end}

-- the rows of a text are in range and in order
pub texts-in_range : TextsAreInRange
unfolding text_rows
texts-in_range ordered kinds text rows some good =
    let found = rows-read text_value ordered 1 kinds 0 1 (csv_rows text) rows some good in
    (rows-range text_value text_value-range kinds (csv_rows text) rows found.0, found.1)

-- the rows that a call hands over are in range and in order
pub ranges-given : {A : Type 0} (ordered : Bool) (kinds : List Kind) (text : List ℕ) (result : Result A TableStop) → 0 < length kinds
    → OnOk result ((rows : List (List ℕ)) → text_rows ordered kinds text ≡ Ok rows → AreRows kinds rows × AreInOrder ordered 0 rows)
ranges-given ordered kinds text (Ok x) some = λ rows good. texts-in_range ordered kinds text rows some good
ranges-given ordered kinds text (Err stop) some = tt

-- a sink takes the values of a row that is read
pub row-taken : {P : List ℕ → Type 0} (kinds : List Kind) (floor row : ℕ) (values : List ℕ) (fields : List (List ℕ)) → ((row : List ℕ) → IsRow 0 kinds row → FitsBytes kinds row → P row) → length fields ≡ length kinds
    → Ok values ≡ row_values text_value 0 floor row 1 kinds fields → P values
row-taken kinds floor row values fields takes width good =
    let range = row-range text_value text_value-range 0 kinds fields values (row-read text_value 0 floor row 1 kinds fields values width (sym good)).0 in
    takes values range (IsRow-fits 0 kinds values range)

-- no field is read
pub plain-start : {kinds : List Kind} (floor : ℕ) {text values rest : List ℕ} → BeginsField text [] rest → length values ≡ length kinds → PlainRead kinds floor text values 0 0 floor false rest
plain-start floor begins width = record {
  fields = [];
  stands = begins;
  counted = refl;
  read = λ number more. record { so_far = sym (behind-nil _); width = width };
}

-- a field more
plain-more : {kinds : List Kind} {floor : ℕ} {text values : List ℕ} {done rule least : ℕ} {rest : List ℕ} → PlainRead kinds floor text values done rule least false rest → (d : Kind) (at_end : Bool) (size value : ℕ) (next : List ℕ) → done < length kinds
    → IsField rest size → text_value (under rule (get_or kinds done d)) (take size rest) ≡ Ok value → least ≤ value
    → ((start : List ℕ) (fields : List (List ℕ)) → EndsField start fields (drop size rest) → StandsBehind at_end start fields next)
    → PlainRead kinds floor text (slice_set values done value) (done + 1) (rule_after rule (get_or kinds done d) value) 0 at_end next
plain-more {kinds} {floor} {text} {values} {done} {rule} {least} {rest} now d at_end size value next column field good above follows =
    let cell : List ℕ = take size rest in
    record {
      fields = now.fields ++ cell ∷ [];
      stands = follows text (now.fields ++ cell ∷ []) (field text now.fields now.stands);
      counted = omega (arith, length-append now.fields (cell ∷ []), now.counted);
      read = λ number more.
          rw (append_assoc now.fields (cell ∷ []) more)
          (row-more (now.read number (cell ∷ more)) d cell more value column refl (ap (λ result. and_then result (not_below least)) good ∙ not_below-above least value above));
    }

-- a field more at the front of a text, whatever follows
pub plain-front : {kinds : List Kind} {floor : ℕ} {text values : List ℕ} {done rule least : ℕ} (rest more : List ℕ) → PlainRead kinds floor text values done rule least false (rest ++ more) → (d : Kind) (at_end : Bool) (size value : ℕ) (next : List ℕ) → done < length kinds
    → size ≤ length rest → IsField (rest ++ more) size → text_value (under rule (get_or kinds done d)) (take size rest) ≡ Ok value → least ≤ value
    → ((start : List ℕ) (fields : List (List ℕ)) → EndsField start fields (drop size rest ++ more) → StandsBehind at_end start fields (next ++ more))
    → PlainRead kinds floor text (slice_set values done value) (done + 1) (rule_after rule (get_or kinds done d) value) 0 at_end (next ++ more)
plain-front rest more now d at_end size value next column within field good above follows =
    plain-more now d at_end size value (next ++ more) column field (rw (take-append-le size rest more within) good) above (rw (drop-append-le size rest more within) follows)

-- all fields are read
pub plain-end : {kinds : List Kind} {floor : ℕ} {text values : List ℕ} {done rule least : ℕ} {rest : List ℕ} → PlainRead kinds floor text values done rule least true rest → done ≡ length kinds → HasRow kinds floor text values rest
plain-end now all = record {
  fields = now.fields;
  split = now.stands;
  width = now.counted ∙ all;
  read = λ number. row_end (rw (append-nil now.fields) at (now.read number [])) all;
}

module _ {kinds : List Kind} {floor : ℕ} {text values : List ℕ} {done rule least columns : ℕ} {rest : List ℕ} (now : PlainRead kinds floor text values done rule least (done == columns) rest) where
  -- there are more columns
  pub plain-goes_on : columns ≢ done → PlainRead kinds floor text values done rule least false rest
  plain-goes_on more = rw (ne_eqb done columns (λ e. more (sym e))) at now

  -- there is no column more
  pub plain-all : columns ≡ done → length kinds ≡ columns → HasRow kinds floor text values rest
  plain-all all width = plain-end (rw (eq-eqb done columns (sym all)) at now) (sym all ∙ sym width)

-- where some columns are not all, there is one more
pub column-more : (done columns : ℕ) → done ≤ columns → columns ≢ done → done < columns
column-more done columns now more = omega arith

-- columns that are not less are all
pub columns-all : (done columns : ℕ) → columns ≤ done → done ≤ columns → columns ≡ done
columns-all done columns few now = omega arith

-- a row with few columns is small
pub few-columns : (columns : ℕ) → columns ≤ 5 → (columns * 2 < 9223372036854775808) × (columns * 8 < 9223372036854775808) × (columns < 100)
few-columns columns few = (omega arith, omega arith, omega arith)

-- the rows that are left are handed over, and so are all
pub all-over : {S A : Type 0} (takes_to : S → List (List ℕ) → S → Type 0) (start now end : S) (all left : Result (List (List ℕ)) TableStop) (result : Result A TableStop) → HandsFront (TakesMore takes_to start now) all left
    → OnOk result (HandsOver (TakesMore takes_to now end) left) → takes_to start [] start → OnOk result (HandsOver (λ rows. takes_to start rows end) all)
all-over takes_to start now end all left (Ok x) front over fresh = front-over takes_to start now end all left front over fresh
all-over takes_to start now end all left (Err stop) front over fresh = tt

-- they are refused, and so are all
pub all-tells : {A : Type 0} {has_taken : List (List ℕ) → Type 0} (all left : Result (List (List ℕ)) TableStop) (result : Result A TableStop) → HandsFront has_taken all left → IfErr result (Tells left) → IfErr result (Tells all)
all-tells all left (Ok x) front told = tt
all-tells all left (Err stop) front told = front-tells all left stop front told
