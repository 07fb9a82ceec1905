-- How far a row is written as a record, and records as lines.
use Rattle.std.proofs.lemmas.Bool.Decides.{nat_tests}
use borrow.Rule.Slice.PartMut.{mid_of, put_mid}
use Rattle.std.proofs.Common.{◌≡◌, ℕ, ◌+◌, ◌-◌, ◌<◌, ◌≤◌, List, [], ◌∷◌, ◌++◌, length, drop, get_or, take, refl, sym, ap, ◌∙◌, arith, append_assoc, zero, suc, add-one}
use Rattle.std.specs.Prelude.{Result, Ok, Err, Option, None, Some, ◌==◌, false}
use Rattle.std.proofs.lemmas.List.{append-nil, drop_all, drop_more, drop-append-le, drop-drop, drop_at, length-drop, length-take-le}
use Rattle.byteorder.specs.Endian.{little_bytes}
use Rattle.kt_rec.specs.Kinds.{width}
use Rattle.kt_cells.specs.Records.{record_bytes}
use Rattle.kt_cells.specs.Taking.{HasMore}
use Rattle.kt_rec.specs.declared.kind.Kind.{Kind}
use Rattle.kt_money.specs.NumberText.{count_text}
use Rattle.kt_cells.specs.Texts.{row_texts}
use Rattle.kt_rec.specs.Lines.{line, fields_behind}
use Rattle.kt_cells.specs.Lines.{front_text, line_with, rows_lines, lines_behind, lines_with, line_rest, separator}
use Rattle.kt_cells.specs.Reading.{and_then, behind}
use Rattle.kt_cells.specs.declared.stop.TableStop.{TableStop}
use Rattle.kt_cells.proofs.ReadingLemmas.{behind-nil}

-- one number more of a record
pub record_bytes-more : (kinds : List Kind) (values : List ℕ) (done : ℕ) (d : Kind) → done < length kinds → length values ≡ length kinds
    → record_bytes (drop done kinds) (drop done values) ≡ little_bytes (width (get_or kinds done d)) (get_or values done 0) ++ record_bytes (drop (done + 1) kinds) (drop (done + 1) values)
unfolding record_bytes
record_bytes-more kinds values done d column long =
    let here : drop done kinds ≡ get_or kinds done d ∷ drop (done + 1) kinds = drop_more kinds done d column in
    let value : drop done values ≡ get_or values done 0 ∷ drop (done + 1) values = drop_more values done 0 (omega arith) in
    rw (here, value) refl

-- nothing is left of a record
pub record_bytes-end : (kinds : List Kind) (values : List ℕ) (done : ℕ) → length kinds ≤ done → record_bytes (drop done kinds) (drop done values) ≡ []
unfolding record_bytes
record_bytes-end kinds values done last = rw (drop_all done kinds last) refl

-- nothing more stands behind what was there
pub more-none : (out : List ℕ) → HasMore out out
more-none out = ([], sym (append-nil out))

-- a piece more does
pub more-piece : (start out next piece : List ℕ) → HasMore start out → next ≡ out ++ piece → HasMore start next
more-piece start out next piece now written = (now.0 ++ piece, written ∙ ap (λ text. text ++ piece) now.1 ∙ append_assoc start now.0 piece)

-- the lines of rows behind what was there
abbrev pub lines_put : Option ℕ → List Kind → List ℕ → Result (List (List ℕ)) TableStop → Result (List ℕ) TableStop
lines_put before kinds out left = and_then left (λ rows. Ok (out ++ lines_with before kinds rows))

-- the line of a row stands in front of those behind it
pub lines_with-row : (before : Option ℕ) (kinds : List Kind) (row : List ℕ) (rows : List (List ℕ)) → lines_with before kinds (row ∷ rows) ≡ line_with before kinds row ++ lines_with before kinds rows
unfolding rows_lines lines_behind
lines_with-row None kinds row rows = refl
lines_with-row (Some count) kinds row rows = refl

-- no row has no line
pub lines_with-none : (before : Option ℕ) (kinds : List Kind) → lines_with before kinds [] ≡ []
unfolding rows_lines lines_behind
lines_with-none None kinds = refl
lines_with-none (Some count) kinds = refl

-- the lines of rows stand in front of those behind them
lines_with-append : (before : Option ℕ) (kinds : List Kind) (rows more : List (List ℕ)) → lines_with before kinds (rows ++ more) ≡ lines_with before kinds rows ++ lines_with before kinds more
lines_with-append before kinds [] more = rw (lines_with-none before kinds) refl
lines_with-append before kinds (row ∷ rows) more =
    lines_with-row before kinds row (rows ++ more)
    ∙ ap (λ lines. line_with before kinds row ++ lines) (lines_with-append before kinds rows more)
    ∙ sym (ap (λ lines. lines ++ lines_with before kinds more) (lines_with-row before kinds row rows) ∙ append_assoc (line_with before kinds row) (lines_with before kinds rows) (lines_with before kinds more))

-- lines more
pub lines-more : (before : Option ℕ) (kinds : List Kind) (out : List ℕ) (rows : List (List ℕ)) (left : Result (List (List ℕ)) TableStop)
    → lines_put before kinds out (behind rows left) ≡ lines_put before kinds (out ++ lines_with before kinds rows) left
lines-more before kinds out [] left = rw (behind-nil left, lines_with-none before kinds, append-nil out) refl
lines-more before kinds out (row ∷ rows) (Ok more) =
    ap Ok (ap (λ lines. out ++ lines) (lines_with-append before kinds (row ∷ rows) more) ∙ sym (append_assoc out (lines_with before kinds (row ∷ rows)) (lines_with before kinds more)))
lines-more before kinds out (row ∷ rows) (Err stop) = refl

-- no line behind what was there
pub lines-end : (before : Option ℕ) (kinds : List Kind) (out : List ℕ) → lines_put before kinds out (Ok []) ≡ Ok out
lines-end before kinds out = rw (lines_with-none before kinds, append-nil out) refl

-- what is left begins with the separator of its column
pub line_rest-field : (column : ℕ) (field : List ℕ) (fields : List (List ℕ)) → line_rest column (field ∷ fields) ≡ separator column ++ (field ++ fields_behind fields)
unfolding line fields_behind
line_rest-field zero field fields = refl
line_rest-field (suc column) field fields = let later : (suc column == 0) ≡ false = grind (arith, nat_tests) in rw later refl

pub line_rest-later : (column : ℕ) (fields : List (List ℕ)) → line_rest (column + 1) fields ≡ fields_behind fields
line_rest-later column fields = rw add-one refl

pub line_rest-end : (column : ℕ) → line_rest column [] ≡ 10 ∷ []
unfolding line fields_behind
line_rest-end zero = refl
line_rest-end (suc column) = refl

-- a piece of 21 bytes that is put in front of a place, and what stands behind that place
pub piece_put : (end size : ℕ) (text piece new : List ℕ) → 21 ≤ end → end ≤ length text → size ≤ 21 → length new ≡ length (mid_of (end - 21) (end - (end - 21)) text) → new ≡ piece → drop (end - size) (put_mid (end - 21) (end - (end - 21)) text new) ≡ drop (21 - size) piece ++ drop end text
piece_put end size text piece new room inside short wide is =
    let start = end - 21 in
    let left = 21 - size in
    let post = drop (end - start) (drop start text) in
    let at : length (take start text) ≡ start = length-take-le start text (omega arith) in
    let whole : length piece ≡ 21 = sym (ap length is) ∙ (wide ∙ (length-take-le (end - start) (drop start text) (omega (arith, length-drop start text)) ∙ omega arith)) in
    rw is (
    ap (λ n. drop n (take start text ++ (piece ++ post))) (omega arith)
    ∙ (sym (drop-drop left start (take start text ++ (piece ++ post)))
    ∙ (ap (drop left) (drop_at (take start text) (piece ++ post) start at)
    ∙ (drop-append-le left piece post (omega (arith, whole))
    ∙ ap (λ rest. drop left piece ++ rest) (drop-drop (end - start) start text ∙ ap (λ n. drop n text) (omega arith)))))
    )

-- a line stands behind its front
pub line_with-front : (before : Option ℕ) (kinds : List Kind) (row : List ℕ) (after : List ℕ) → front_text before ++ (line (row_texts 0 kinds row) ++ after) ≡ line_with before kinds row ++ after
line_with-front None kinds row after = refl
line_with-front (Some count) kinds row after = append_assoc (count_text count) (44 ∷ []) (line (row_texts 0 kinds row) ++ after) ∙ sym (append_assoc (count_text count) (44 ∷ line (row_texts 0 kinds row)) after)
