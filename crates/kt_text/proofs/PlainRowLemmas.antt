-- Rows that stand in a text as they are, and what the machine of CSV makes of them.
use Rattle.std.proofs.Common.{◌≡◌, ℕ, ◌+◌, ◌-◌, ◌<◌, ◌≤◌, true, false, cond, List, [], ◌∷◌, ◌++◌, length, get_or, take, drop, Option, Some, None, refl, sym, ap, ◌∙◌, arith, inl, inr, take-append-drop, eqb}
use Rattle.std.specs.List.{list_any}
use Rattle.std.specs.Prelude.{IfSome}
use Rattle.std.specs.Str.Parse.{AllDigits}
use Rattle.std.proofs.lemmas.Bool.{cases_Bool, eqb-true, false≢true, not-true, or_cases, or_parts}
use Rattle.std.proofs.lemmas.Bool.Decides.{nat_tests}
use Rattle.std.proofs.lemmas.List.{drop-append-le, length-append, length-take-le, take-append-le, take_rest}
use Rattle.std.proofs.lemmas.List.Folds.{list_any-append}
use Rattle.csv.specs.Writing.{default_writer, needs_byte}
use Rattle.csv.specs.Machine.{Read, next_record, after_end, ends_at_end}
use Rattle.csv.specs.Reading.{default_config, is_bom, records, strip_bom}
use Rattle.csv.specs.declared.parser.State.{State}
use Rattle.csv.specs.declared.parser.State.TheVariants as st
use Rattle.csv.specs.declared.parser.Terminator.TheVariants as term
use Rattle.csv.proofs.RoundTrip.{field-run, start-same, record-same}
use Rattle.kt_text.specs.Records.{records_in}
use Rattle.kt_text.specs.Rows.{csv_rows}
use Rattle.kt_text.specs.PlainText.{csv_records, is_line_end, begins_with_line_end, begins_with_mark, begins_with_point, begins_with_row, ends_heading, IsPlainField, BeginsField, EndsField, IsField}
use Rattle.kt_text.proofs.MachineLemmas.{records_in-next, records_in-none}
use Rattle.kt_text.proofs.PlainLemmas.{digits_without, point-split}
use Rattle.kt_text.proofs.TrimmingLemmas.{behind_first}

-- what holds at both bytes that end a line
at_line_end : (P : ℕ → Type 0) → P 13 → P 10 → (c : ℕ) → is_line_end c ≡ true → P c
at_line_end P cr lf c h = elim (or_cases (eqb c 13) (eqb c 10) h) [ inl e ↦ rw (eqb-true c 13 e) cr | inr e ↦ rw (eqb-true c 10 e) lf ]

-- the same next record, the same records
by_next : (s t : State) (xs ys : List ℕ) (next : Option Read) → ends_at_end s ≡ false → ends_at_end t ≡ false
    → next_record default_config s [] [] xs ≡ next → next_record default_config t [] [] ys ≡ next → records_in s (Some xs) ≡ records_in t (Some ys)
by_next s t xs ys None p q e f = records_in-none s xs e ∙ sym (records_in-none t ys f)
by_next s t xs ys (Some r) p q e f = records_in-next s xs r p e ∙ sym (records_in-next t ys r q f)

-- behind a carriage return a record begins as it does elsewhere
after_cr : (xs : List ℕ) → next_record default_config st.AfterCr [] [] xs ≡ next_record default_config st.StartRecord [] [] xs
unfolding next_record
after_cr [] = refl {a = None}
after_cr (c ∷ rest) = elim (cases_Bool (eqb c 10)) [ inl lf ↦ rw (eqb-true c 10 lf) refl | inr other ↦ rw other refl ]

-- the end of a line before a record is nothing
skip_line_end : (c : ℕ) (rest : List ℕ) → is_line_end c ≡ true → records default_config (c ∷ rest) ≡ records default_config rest
unfolding next_record
skip_line_end c rest h =
    at_line_end (λ b. records default_config (b ∷ rest) ≡ records default_config rest)
    (by_next st.StartRecord st.StartRecord (13 ∷ rest) rest _ refl refl refl refl) (by_next st.StartRecord st.StartRecord (10 ∷ rest) rest _ refl refl refl refl) c h

-- and no byte order mark
unmarked : (c : ℕ) (rest : List ℕ) → is_line_end c ≡ true → strip_bom (c ∷ rest) ≡ c ∷ rest
unfolding strip_bom
unmarked c (a ∷ b ∷ more) h = at_line_end (λ d. strip_bom (d ∷ a ∷ b ∷ more) ≡ d ∷ a ∷ b ∷ more) refl refl c h
unmarked c _ h = refl

-- both at the front of a text
pub skip_first : (xs : List ℕ) → 1 ≤ length xs → is_line_end (get_or xs 0 0) ≡ true → records default_config xs ≡ records default_config (drop 1 xs)
skip_first [] some h = absurd (omega arith)
skip_first (c ∷ rest) some h = skip_line_end c rest h

pub skip_marked : (xs : List ℕ) → 1 ≤ length xs → is_line_end (get_or xs 0 0) ≡ true → csv_records xs ≡ records default_config (drop 1 xs)
skip_marked [] some h = absurd (omega arith)
skip_marked (c ∷ rest) some h = rw unmarked (skip_line_end c rest h)

-- a text without a byte order mark
pub strip_bom-at : (text : List ℕ) → strip_bom text ≡ cond (begins_with_mark text) (drop 3 text) text
unfolding strip_bom
strip_bom-at (a ∷ b ∷ c ∷ rest) = refl
strip_bom-at _ = refl

pub behind_mark : (xs : List ℕ) → take (length xs - 3) (drop 3 xs) ≡ drop 3 xs
behind_mark xs = take_rest xs 3

-- the end of a line is no quote
no_quote : (c : ℕ) → is_line_end c ≡ true → eqb c 34 ≡ false
no_quote c h = grind (arith, nat_tests)

-- it ends the row
line_ends : (fields : List (List ℕ)) (x : List ℕ) (c : ℕ) (rest : List ℕ) → is_line_end c ≡ true
    → next_record default_config st.InField fields x (c ∷ rest) ≡ Some (fields ++ x ∷ [], after_end term.CRLF c, rest)
unfolding next_record
line_ends fields x c rest h = at_line_end (λ b. next_record default_config st.InField fields x (b ∷ rest) ≡ Some (fields ++ x ∷ [], after_end term.CRLF b, rest)) refl refl c h

-- what is left behind it is left from there on
line_left : (c : ℕ) (rest : List ℕ) → is_line_end c ≡ true → records_in (after_end term.CRLF c) (Some rest) ≡ csv_records (c ∷ rest)
line_left c rest h =
    at_line_end (λ b. records_in (after_end term.CRLF b) (Some rest) ≡ records default_config rest) (by_next st.AfterCr st.StartRecord rest rest _ refl refl (after_cr rest) refl) refl c h
    ∙ sym (skip_marked (c ∷ rest) (omega arith) h)

-- a row begins with its first field
pub begins-first : (text rest : List ℕ) → csv_records text ≡ records default_config rest → begins_with_row rest ≡ true → BeginsField text [] rest
begins-first text [] same begins = absurd (false≢true begins)
begins-first text (c ∷ rest) same begins =
    let none = or_parts (eqb c 13) (eqb c 10) (not-true (is_line_end c) begins) in
    record { line = c ∷ rest; same = same; read = record-same [] [] c rest none.0 none.1 }

-- bytes without marks are a field
pub plain-field : (rest : List ℕ) (size : ℕ) → IsPlainField (take size rest) → IsField rest size
plain-field rest size plain text fields begins = record {
  before = fields;
  last = take size rest;
  fields_are = refl;
  plain = plain;
  begins = record { line = begins.line; same = begins.same; read = begins.read ∙ ap (next_record default_config st.StartField fields []) (sym (take-append-drop size rest)) };
}

-- the machine at the end of a field, with no quote behind it
field_read : (text : List ℕ) (fields : List (List ℕ)) (c : ℕ) (rest : List ℕ) (ended : EndsField text fields (c ∷ rest)) → eqb c 34 ≡ false
    → next_record default_config st.StartRecord [] [] ended.begins.line ≡ next_record default_config st.InField ended.before ended.last (c ∷ rest)
field_read text fields c rest ended unquoted = ended.begins.read ∙ rw ended.plain at (field-run ended.before ended.last c rest unquoted)

-- behind a comma the next field begins
pub comma-behind : (text : List ℕ) (fields : List (List ℕ)) (rest : List ℕ) → 1 ≤ length rest → get_or rest 0 0 ≡ 44 → EndsField text fields rest → BeginsField text fields (drop 1 rest)
unfolding next_record
comma-behind text fields [] some comma ended = absurd (omega arith)
comma-behind text fields (c ∷ rest) some comma ended = record {
  line = ended.begins.line;
  same = ended.begins.same;
  read = field_read text fields c rest ended (rw comma refl) ∙ rw (comma, ended.fields_are) refl;
}

-- at the end of a line the row is read
pub row-behind : (text : List ℕ) (fields : List (List ℕ)) (rest : List ℕ) → begins_with_line_end rest ≡ true → EndsField text fields rest → csv_records text ≡ fields ∷ csv_records rest
row-behind text fields [] end ended = absurd (false≢true end)
row-behind text fields (c ∷ rest) end ended =
    let next = field_read text fields c rest ended (no_quote c end) ∙ line_ends ended.before ended.last c rest end in
    ended.begins.same ∙ records_in-next st.StartRecord ended.begins.line (ended.before ++ ended.last ∷ [], after_end term.CRLF c, rest) refl next
    ∙ rw (ended.fields_are, line_left c rest end) refl

-- the end of a line ends a heading without quotes, where the machine is in a field or at its start
heading_next : (s : State) → ((fields : List (List ℕ)) (field : List ℕ) (x : ℕ) (ys : List ℕ) → eqb x 34 ≡ false → next_record default_config s fields field (x ∷ ys) ≡ next_record default_config st.InField fields field (x ∷ ys))
    → (fields : List (List ℕ)) (field xs : List ℕ) (c : ℕ) (rest : List ℕ) → list_any ends_heading xs ≡ false → is_line_end c ≡ true
    → (names : List (List ℕ)) × (next_record default_config s fields field (xs ++ c ∷ rest) ≡ Some (names, after_end term.CRLF c, rest))
unfolding next_record
heading_next s same fields field [] c rest plain ended = (fields ++ field ∷ [], same fields field c rest (no_quote c ended) ∙ line_ends fields field c rest ended)
heading_next s same fields field (x ∷ xs) c rest plain ended =
    let parts = or_parts (ends_heading x) (list_any ends_heading xs) plain in
    let marks = or_parts (eqb x 34) (is_line_end x) parts.0 in
    let none = or_parts (eqb x 13) (eqb x 10) marks.1 in
    let here = same fields field x (xs ++ c ∷ rest) marks.0 in
    elim (cases_Bool (eqb x 44)) [
      | inl comma ↦ (let more = heading_next st.StartField start-same (fields ++ field ∷ []) [] xs c rest parts.1 ended in (more.0, here ∙ rw comma more.1))
      | inr other ↦ (
          let more = heading_next st.InField (λ _ _ _ _ _. refl) fields (field ++ x ∷ []) xs c rest parts.1 ended in
          let joins : next_record default_config st.InField fields field (x ∷ xs ++ c ∷ rest) ≡ next_record default_config st.InField fields (field ++ x ∷ []) (xs ++ c ∷ rest) = rw (other, none.0, none.1) refl in
          (more.0, here ∙ joins ∙ more.1))
    ]

-- the records behind a heading without quotes
heading_behind : (xs ys : List ℕ) → 0 < length xs → list_any ends_heading xs ≡ false → begins_with_line_end ys ≡ true → drop 1 (records default_config (xs ++ ys)) ≡ csv_records ys
heading_behind (x ∷ xs) (c ∷ rest) some plain ended =
    let marks = or_parts (eqb x 34) (is_line_end x) (or_parts (ends_heading x) (list_any ends_heading xs) plain).0 in
    let none = or_parts (eqb x 13) (eqb x 10) marks.1 in
    let next = heading_next st.StartField start-same [] [] (x ∷ xs) c rest plain ended in
    ap (drop 1) (records_in-next st.StartRecord (x ∷ xs ++ c ∷ rest) (next.0, after_end term.CRLF c, rest) refl (record-same [] [] x (xs ++ c ∷ rest) none.0 none.1 ∙ next.1))
    ∙ line_left c rest ended
heading_behind (x ∷ xs) [] some plain ended = absurd (false≢true ended)
heading_behind [] ys some plain ended = absurd (omega arith)

-- the rows of a text are the records behind its heading
pub rows_behind : (text whole : List ℕ) (size : ℕ) → whole ≡ strip_bom text → 0 < size → size ≤ length whole → list_any ends_heading (take size whole) ≡ false → begins_with_line_end (drop size whole) ≡ true
    → csv_rows text ≡ csv_records (drop size whole)
rows_behind text whole size whole_is some within plain ended =
    ap (λ xs. drop 1 (records default_config xs)) (sym whole_is ∙ sym (take-append-drop size whole))
    ∙ heading_behind (take size whole) (drop size whole) (omega (arith, length-take-le size whole within)) plain ended

-- digits are plain
digits_plain : (ds : List ℕ) → AllDigits 10 ds → list_any (needs_byte default_writer) ds ≡ false
digits_plain = digits_without (needs_byte default_writer) (λ d r. grind (arith, nat_tests))

-- digits are a field
pub digits-field : (text : List ℕ) (count : ℕ) → AllDigits 10 (take count text) → IsField text count
digits-field text count all = plain-field text count (digits_plain (take count text) all)

-- so are digits, a point and decimals
pub decimals-field : (text : List ℕ) (count more : ℕ) → AllDigits 10 (take count text) → begins_with_point (drop count text) ≡ true → AllDigits 10 (take more (drop (count + 1) text)) → IsField text (count + (1 + more))
decimals-field text count more all point digits =
    plain-field text (count + (1 + more))
    (rw (point-split text count more point, list_any-append, digits_plain (take count text) all) (digits_plain (take more (drop (count + 1) text)) digits))

-- ---- what holds at the front of a text, whatever follows

-- the first field of a row behind it
pub begins-front : (text rest more : List ℕ) → 1 ≤ length text → is_line_end (get_or text 0 0) ≡ true → records default_config (drop 1 text ++ more) ≡ records default_config (rest ++ more) → begins_with_row rest ≡ true → BeginsField (text ++ more) [] (rest ++ more)
begins-front [] rest more some h same begins = absurd (omega arith)
begins-front (c ∷ text) [] more some h same begins = absurd (false≢true begins)
begins-front (c ∷ text) (d ∷ rest) more some h same begins = begins-first (c ∷ (text ++ more)) (d ∷ (rest ++ more)) (skip_marked (c ∷ (text ++ more)) (omega arith) h ∙ same) begins

-- what follows from two facts about what there may be
pub some-both : {A : Type 0} {P Q R : A → Type 0} (found : Option A) → IfSome found P → IfSome found Q → ((x : A) → P x → Q x → R x) → IfSome found R
some-both None p q follows = tt
some-both (Some x) p q follows = follows x p q

-- a comma, or the end of a line, behind a field
pub comma-front : (text : List ℕ) (fields : List (List ℕ)) (rest more : List ℕ) → 1 ≤ length rest → get_or rest 0 0 ≡ 44 → EndsField text fields (rest ++ more) → BeginsField text fields (drop 1 rest ++ more)
comma-front text fields [] more some comma ended = absurd (omega arith)
comma-front text fields (c ∷ rest) more some comma ended = comma-behind text fields (c ∷ (rest ++ more)) (omega arith) comma ended

line_end-front : (rest more : List ℕ) → begins_with_line_end rest ≡ true → begins_with_line_end (rest ++ more) ≡ true
line_end-front [] more end = absurd (false≢true end)
line_end-front (c ∷ rest) more end = end

pub row-front : (text : List ℕ) (fields : List (List ℕ)) (rest more : List ℕ) → begins_with_line_end rest ≡ true → EndsField text fields (rest ++ more) → csv_records text ≡ fields ∷ csv_records (rest ++ more)
row-front text fields rest more end ended = row-behind text fields (rest ++ more) (line_end-front rest more end) ended

-- a field: the machine takes it behind a comma as elsewhere, so that its bytes are known to be plain
unmarked_comma : (text : List ℕ) → strip_bom (44 ∷ text) ≡ 44 ∷ text
unfolding strip_bom
unmarked_comma (a ∷ b ∷ rest) = refl
unmarked_comma _ = refl

after_comma : (text : List ℕ) → BeginsField (44 ∷ text) ([] ∷ []) text
unfolding next_record
after_comma text = record { line = 44 ∷ text; same = ap (records default_config) (unmarked_comma text); read = refl }

last_is : (before : List (List ℕ)) (first x last : List ℕ) → first ∷ x ∷ [] ≡ before ++ last ∷ [] → x ≡ last
last_is [] first x last e = absurd (omega (arith, ap length e))
last_is (a ∷ []) first x last e = cc e
last_is (a ∷ b ∷ before) first x last e = absurd (omega (arith, ap length e, length-append before (last ∷ [])))

pub field_front : (text more : List ℕ) (size : ℕ) → IsField text size → size ≤ length text → IsField (text ++ more) size
field_front text more size field within =
    let ended = field (44 ∷ text) ([] ∷ []) (after_comma text) in
    plain-field (text ++ more) size (rw (take-append-le size text more within, last_is ended.before [] (take size text) ended.last ended.fields_are) ended.plain)

-- a heading
strip_bom-front : (text more : List ℕ) → 3 ≤ length text → strip_bom (text ++ more) ≡ strip_bom text ++ more
unfolding strip_bom
strip_bom-front (a ∷ b ∷ c ∷ rest) more three = elim (cases_Bool (is_bom a b c)) [ inl e ↦ rw e refl | inr e ↦ rw e refl ]
strip_bom-front _ more three = absurd (omega arith)

pub rows-front : (text whole more : List ℕ) (size : ℕ) → whole ≡ strip_bom text → 3 ≤ length text → 0 < size → size ≤ length whole → list_any ends_heading (take size whole) ≡ false → begins_with_line_end (drop size whole) ≡ true
    → csv_rows (text ++ more) ≡ csv_records (drop size whole ++ more)
rows-front text whole more size whole_is three some within plain ended =
    let kept = drop-append-le size whole more within in
    rw kept at (rows_behind (text ++ more) (whole ++ more) size (ap (λ xs. xs ++ more) whole_is ∙ sym (strip_bom-front text more three)) some
    (omega (arith, within, length-append whole more)) (rw (take-append-le size whole more within) plain) (rw kept (line_end-front (drop size whole) more ended)))

pub ruleset front_fields = (digits-field, decimals-field, take_rest)

pub ruleset plain_fields = (plain-field, comma-behind, row-behind, behind_first)

pub ruleset plain_rows = (begins-first, skip_first, skip_marked, behind_first)

pub ruleset plain_headings = (rows_behind, strip_bom-at, behind_mark, take_rest)
