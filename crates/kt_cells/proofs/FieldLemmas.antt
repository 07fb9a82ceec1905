-- The fields of a line, put in front of each other from the last to the first.
use Rattle.std.proofs.Common.{◌≡◌, ℕ, zero, suc, ◌+◌, ◌-◌, ◌/◌, ◌^◌, ◌<◌, ◌≤◌, List, [], ◌∷◌, ◌++◌, length, take, drop, get_or, refl, sym, ap, ◌∙◌, arith, append_assoc, length-append}
use Rattle.std.specs.Prelude.{decimal, slice_set}
use Rattle.std.proofs.lemmas.Fmt.{length-decimal-le}
use Rattle.std.proofs.lemmas.List.{append-nil, take_all, drop_all, drop_more, drop-set, take_more_set}
use Rattle.std.proofs.Math.ListN.{length-set}
use Rattle.kt_money.specs.NumberText.{plain, padded_digits}
use Rattle.kt_money.specs.NumberTextLaws.{plain-decimals, length-padded_digits}
use Rattle.kt_rec.specs.Kinds.{under}
use Rattle.kt_rec.specs.Lines.{fields_behind}
use Rattle.kt_cells.specs.Lines.{LineFrom, line_rest, separator, units_under}
use Rattle.kt_cells.specs.Reading.{rule_after}
use Rattle.kt_cells.specs.Texts.{row_texts, value_text}
use Rattle.kt_rec.specs.declared.kind.Kind.{Kind}
use Rattle.kt_cells.proofs.WritingLemmas.{line_rest-field, line_rest-later, line_rest-end}

-- a number with decimals takes a point and those behind it
pub length-plain : (whole scale value : ℕ) → 1 ≤ scale → 1 ≤ whole → value / 10 ^ scale < 10 ^ whole → value / 10 ^ scale < 2 ^ 64 → length (plain scale value) ≤ whole + 1 + scale
length-plain whole scale value some front small fits =
    let split : plain scale value ≡ decimal (value / 10 ^ scale) ++ 46 ∷ padded_digits scale value = plain-decimals scale value some in
    omega (arith, length-decimal-le whole (value / 10 ^ scale) front small fits, ap length split, length-append (decimal (value / 10 ^ scale)) (46 ∷ padded_digits scale value), length-padded_digits scale value)

-- a row has a text for each column
length-row_texts : (rule : ℕ) (kinds : List Kind) (values : List ℕ) → length values ≡ length kinds → length (row_texts rule kinds values) ≡ length kinds
unfolding row_texts
length-row_texts rule [] values long = refl
length-row_texts rule (kind ∷ kinds) [] long = absurd (omega arith)
length-row_texts rule (kind ∷ kinds) (value ∷ values) long = ap suc (length-row_texts (rule_after rule kind value) kinds values (omega arith))

-- it is that of its value
row_texts-field : (rule : ℕ) (kinds : List Kind) (values : List ℕ) (column : ℕ) (d : Kind) → length values ≡ length kinds → column < length kinds
    → get_or (row_texts rule kinds values) column [] ≡ value_text (get_or (units_under rule kinds values) column d) (get_or values column 0)
unfolding row_texts units_under
row_texts-field rule (kind ∷ kinds) (value ∷ values) zero d long within = refl
row_texts-field rule (kind ∷ kinds) (value ∷ values) (suc column) d long within = row_texts-field (rule_after rule kind value) kinds values column d (omega arith) (omega arith)
row_texts-field rule kinds values column d long within = absurd (omega arith)

-- the kinds of a row are found as far as a column, with this rule for the rest
pub record UnitsFound (kinds : List Kind) (values : List ℕ) (units : List Kind) (done rule : ℕ) : Type 0 where
  pub so_far : take done units ++ units_under rule (drop done kinds) (drop done values) ≡ units_under 0 kinds values
  pub width : length units ≡ length kinds

module _ {kinds : List Kind} {values : List ℕ} {units : List Kind} {done rule : ℕ} (now : UnitsFound kinds values units done rule) where
  -- a column more
  pub units-more : (d : Kind) → done < length kinds → length values ≡ length kinds
      → UnitsFound kinds values (slice_set units done (under rule (get_or kinds done d))) (done + 1) (rule_after rule (get_or kinds done d) (get_or values done 0))
  unfolding units_under
  units-more d column long =
      let unit : Kind = under rule (get_or kinds done d) in
      let here : drop done kinds ≡ get_or kinds done d ∷ drop (done + 1) kinds = drop_more kinds done d column in
      let value : drop done values ≡ get_or values done 0 ∷ drop (done + 1) values = drop_more values done 0 (omega arith) in
      let taken : take (done + 1) (slice_set units done unit) ≡ take done units ++ unit ∷ [] = take_more_set units done unit (omega (arith, now.width)) in
      record {
        so_far = rw (taken, append_assoc (take done units) (unit ∷ [])) (rw (here, value) at now.so_far);
        width = length-set units done unit ∙ now.width;
      }

  -- all kinds are found
  pub units-end : done ≡ length kinds → units ≡ units_under 0 kinds values
  unfolding units_under
  units-end last =
      let none : drop done kinds ≡ [] = drop_all done kinds (omega arith) in
      sym (take_all done units (omega (arith, now.width))) ∙ sym (append-nil (take done units)) ∙ (rw none at now.so_far)

-- the line feed stands behind the last field
pub line_from-end : (kinds : List Kind) (values text : List ℕ) (end : ℕ) → length values ≡ length kinds → length text ≡ 2400 → 1 ≤ end → end ≤ 2400 → LineFrom kinds values end (drop end text) (slice_set text (end - 1) 10) (end - 1) (length kinds)
line_from-end kinds values text end same long some within =
    let none : drop (length kinds) (row_texts 0 kinds values) ≡ [] = drop_all (length kinds) (row_texts 0 kinds values) (omega (arith, length-row_texts 0 kinds values same)) in
    let last : end - 1 + 1 ≡ end = omega arith in
    record {
      line_is = drop-set text (end - 1) 10 (omega (arith, long)) ∙ rw (last, none, line_rest-end (length kinds)) refl;
      room = omega arith;
      inside = omega arith;
      long = length-set text (end - 1) 10 ∙ long;
      within = omega arith;
    }

-- a field more, with its separator
pub line_from-more : {kinds : List Kind} {values after text : List ℕ} {end at column : ℕ} → LineFrom kinds values end after text at (column + 1) → (next : List ℕ) (start : ℕ) (d : Kind) → length values ≡ length kinds
    → drop start next ≡ separator column ++ (value_text (get_or (units_under 0 kinds values) column d) (get_or values column 0) ++ drop at text)
    → length next ≡ length text → start ≤ at → at ≤ start + 24 → LineFrom kinds values end after next start column
line_from-more {kinds} {values} {after} {text} {end} {at} {column} now next start d same put long before short =
    let texts : List (List ℕ) = row_texts 0 kinds values in
    let split : drop column texts ≡ get_or texts column [] ∷ drop (column + 1) texts = drop_more texts column [] (omega (arith, now.within, length-row_texts 0 kinds values same)) in
    let field = row_texts-field 0 kinds values column d same (omega (arith, now.within)) in
    let text : List ℕ = value_text (get_or (units_under 0 kinds values) column d) (get_or values column 0) in
    let behind = now.line_is ∙ ap (λ rest. rest ++ after) (line_rest-later column (drop (column + 1) texts)) in
    record {
      line_is = put ∙ ap (λ rest. separator column ++ (text ++ rest)) behind
          ∙ sym (ap (λ rest. rest ++ after) (ap (line_rest column) split ∙ line_rest-field column _ _ ∙ ap (λ one. separator column ++ (one ++ fields_behind (drop (column + 1) texts))) field)
          ∙ append_assoc (separator column) _ after ∙ ap (λ rest. separator column ++ rest) (append_assoc text _ after));
      room = omega (arith, now.room, short);
      inside = omega (arith, now.inside, before);
      long = long ∙ now.long;
      within = omega (arith, now.within);
    }
