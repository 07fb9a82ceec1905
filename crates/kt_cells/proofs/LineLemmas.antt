-- Lines of plain fields are read back as their rows.
use Rattle.std.proofs.Common.{◌≡◌, ℕ, ◌^◌, ◌/◌, ◌<◌, ◌≤◌, false, List, [], ◌∷◌, ◌++◌, length, refl, sym, ap, ◌∙◌, arith, inl, inr, length-append, append_assoc}
use Rattle.std.specs.Prelude.{Ok, map, decimal}
use Rattle.std.specs.List.{AllByRecursion}
use Rattle.std.specs.Str.Parse.{AllDigits}
use Rattle.std.proofs.lemmas.Bool.{ne_eqb}
use Rattle.std.proofs.lemmas.Bool.Decides.{nat_tests}
use Rattle.std.proofs.lemmas.Fmt.{decimal_is_IsNumeral}
use Rattle.std.proofs.lemmas.List.Folds.{list_any-append}
use Rattle.csv.specs.Reading.{strip_bom}
use Rattle.csv.specs.Writing.{default_writer, needs_byte, field_text, fields_text, row_text, is_blank, read_back}
use Rattle.kt_money.specs.NumberText.{plain, padded_digits}
use Rattle.kt_money.specs.NumberTextLaws.{plain-decimals, padded_digits-digits}
use Rattle.kt_text.specs.Laws.{CountsAreReadBack, AmountsAreReadBack, RowsAreReadBack}
use Rattle.kt_text.specs.Rows.{csv_rows, rows_text}
use Rattle.kt_rec.specs.Kinds.{under, in_range}
use Rattle.kt_cells.specs.Laws.{IsPlain, LinesAreReadBack}
use Rattle.kt_rec.specs.Lines.{line, fields_behind}
use Rattle.kt_cells.specs.Lines.{rows_lines}
use Rattle.kt_cells.specs.Ranges.{IsRow, AreRows}
use Rattle.kt_cells.specs.Reading.{rule_after}
use Rattle.kt_cells.specs.Texts.{text_value, text_rows, row_texts, value_text}
use Rattle.kt_rec.specs.declared.kind.Kind.{Kind}
use Rattle.kt_cells.proofs.KindLemmas.{in_range-ok, kind-facts}
use Rattle.kt_cells.proofs.RangeLemmas.{IsRead, AreRead, read-rows}

-- the text of a plain field is the field
field_text-plain : (field : List ℕ) → IsPlain field → field_text default_writer field ≡ field
field_text-plain field plain = rw plain refl

-- plain fields behind the first stand in the text of csv as in a line
fields_behind-plain : (fields : List (List ℕ)) → AllByRecursion IsPlain fields → fields_text default_writer fields ++ (10 ∷ []) ≡ fields_behind fields
unfolding fields_text fields_behind
fields_behind-plain [] plain = refl
fields_behind-plain (field ∷ fields) plain =
    rw (field_text-plain field plain.0, append_assoc field (fields_text default_writer fields) (10 ∷ []), fields_behind-plain fields plain.1) refl

-- a field with a byte is not blank
not_blank : (field : List ℕ) (fields : List (List ℕ)) → IsPlain field → 0 < length field → is_blank default_writer (field ∷ fields) ≡ false
unfolding is_blank
not_blank field [] plain some = rw (field_text-plain field plain, ne_eqb (length field) 0 (λ none. omega arith)) refl
not_blank field (next ∷ fields) plain some = refl

-- a row of plain fields is written by csv as a line
row_text-line : (field : List ℕ) (fields : List (List ℕ)) → AllByRecursion IsPlain (field ∷ fields) → 0 < length field → row_text default_writer (field ∷ fields) ≡ line (field ∷ fields)
unfolding line
row_text-line field fields plain some =
    rw (not_blank field fields plain.0 some, field_text-plain field plain.0, append_assoc field (fields_text default_writer fields) (10 ∷ []), fields_behind-plain fields plain.1) refl

-- digits call for no quotes
digits-plain : (digits : List ℕ) → AllDigits 10 digits → IsPlain digits
digits-plain [] all = refl
digits-plain (digit ∷ digits) all =
    let plain : needs_byte default_writer digit ≡ false = grind (arith, nat_tests) in
    rw (plain, digits-plain digits all.1) refl

-- a number in plain digits calls for none, and has one at least
decimal-plain : (n : ℕ) → n < 2 ^ 64 → IsPlain (decimal n) × (0 < length (decimal n))
decimal-plain n small = let numeral = decimal_is_IsNumeral n small in (digits-plain (decimal n) numeral.0.1, numeral.0.0)

-- nor does one with decimals
amount-plain : (scale value : ℕ) → 1 ≤ scale → value / 10 ^ scale < 2 ^ 64 → IsPlain (plain scale value) × (0 < length (plain scale value))
amount-plain scale value some small =
    let whole = decimal-plain (value / 10 ^ scale) small in
    let front : List ℕ = decimal (value / 10 ^ scale) in
    let places : List ℕ = padded_digits scale value in
    rw (plain-decimals scale value some)
    (rw (list_any-append (needs_byte default_writer) front (46 ∷ places), whole.0) (digits-plain places (padded_digits-digits scale value)), omega (arith, length-append front (46 ∷ places), whole.1))

-- the text of a value in range calls for no quotes, is not blank, and is read back
value_text-written : CountsAreReadBack → AmountsAreReadBack → (k : Kind) (value : ℕ) → in_range k value ≡ Ok value
    → IsPlain (value_text k value) × (0 < length (value_text k value)) × (text_value k (value_text k value) ≡ Ok value)
unfolding text_value
value_text-written counts amounts k value range =
    let small : value ≤ 10 ^ 17 = omega (arith, (in_range-ok k value value range).1, (kind-facts 0 k).most) in
    elim (kind-facts 0 k).scale [
      | inl none ↦ (let text = decimal-plain value (omega arith) in rw none (text.0, text.1, rw (counts value (omega arith)) range))
      | inr some ↦ elim some [
        | inl two ↦ (let text = amount-plain 2 value (omega arith) (omega arith) in rw two (text.0, text.1, rw (amounts 2 value (inl refl) small) range))
        | inr six ↦ (let text = amount-plain 6 value (omega arith) (omega arith) in rw six (text.0, text.1, rw (amounts 6 value (inr refl) small) range))
      ]
    ]

module _ (counts : CountsAreReadBack) (amounts : AmountsAreReadBack) where
  -- so are the texts of a row
  row_texts-written : (rule : ℕ) (kinds : List Kind) (values : List ℕ) → IsRow rule kinds values → AllByRecursion IsPlain (row_texts rule kinds values) × IsRead text_value rule kinds (row_texts rule kinds values) values
  unfolding IsRow IsRead row_texts
  row_texts-written rule [] [] range = (tt, tt)
  row_texts-written rule (kind ∷ kinds) (value ∷ values) range =
      let first = value_text-written counts amounts (under rule kind) value range.0 in
      let others = row_texts-written (rule_after rule kind value) kinds values range.1 in
      ((first.0, others.0), (first.2, others.1))
  row_texts-written rule kinds values range = absurd range

  -- csv writes such a row as a line, and reads it back as it is
  row-written : (kinds : List Kind) (values : List ℕ) → 0 < length kinds → IsRow 0 kinds values → (row_text default_writer (row_texts 0 kinds values) ≡ line (row_texts 0 kinds values)) × (read_back (row_texts 0 kinds values) ≡ row_texts 0 kinds values)
  unfolding IsRow row_texts
  row-written (kind ∷ kinds) (value ∷ values) some range =
      (row_text-line (value_text (under 0 kind) value) (row_texts (rule_after 0 kind value) kinds values) (row_texts-written 0 (kind ∷ kinds) (value ∷ values) range).0 (value_text-written counts amounts (under 0 kind) value range.0).1, refl)
  row-written [] values some range = absurd (omega arith)
  row-written (kind ∷ kinds) [] some range = absurd range

  -- so with all rows
  rows-written : (kinds : List Kind) (rows : List (List ℕ)) → 0 < length kinds → AreRows kinds rows
      → (rows_text (map (row_texts 0 kinds) rows) ≡ rows_lines kinds rows) × (map read_back (map (row_texts 0 kinds) rows) ≡ map (row_texts 0 kinds) rows) × AreRead text_value kinds (map (row_texts 0 kinds) rows) rows
  unfolding rows_text rows_lines AreRows
  rows-written kinds [] some range = (refl, refl, tt)
  rows-written kinds (row ∷ rows) some range =
      let here = row-written kinds row some range.0 in
      let others = rows-written kinds rows some range.1 in
      (rw (here.0, others.0) refl, rw (here.1, others.1) refl, ((row_texts-written 0 kinds row range.0).1, others.2))

  -- lines are read back as their rows
  pub lines-read_back : RowsAreReadBack → LinesAreReadBack
  unfolding rows_text text_rows
  lines-read_back written ordered kinds name names rows some range order named heading bom =
      let cells : List (List (List ℕ)) = map (row_texts 0 kinds) rows in
      let text : List ℕ = line (name ∷ names) ++ rows_lines kinds rows in
      let all = rows-written kinds rows some range in
      let same : rows_text ((name ∷ names) ∷ cells) ≡ text = rw (row_text-line name names heading named, all.0) refl in
      let read : csv_rows text ≡ cells = ap csv_rows (sym same) ∙ written (name ∷ names) cells (ap strip_bom same ∙ bom ∙ sym same) ∙ all.1 in
      rw read (read-rows text_value ordered 1 kinds 0 1 cells rows all.2 order)
