-- How far a row, and a table, are read.
use Rattle.std.proofs.Common.{◌≡◌, ℕ, ◌+◌, ◌<◌, Bool, List, [], ◌∷◌, ◌++◌, length, take, drop, get_or, refl, sym, ap, ◌∙◌, arith, append_assoc}
use Rattle.std.specs.Prelude.{Result, Ok, Err, slice_set}
use Rattle.std.proofs.lemmas.Bool.{eq-eqb}
use Rattle.std.proofs.lemmas.List.{append-nil, take_all, drop_more}
use Rattle.std.proofs.lemmas.Grind.{take-set_at}
use Rattle.std.proofs.Math.ListN.{length-set}
use Rattle.std.proofs.Math.Seq.{drop-length}
use Rattle.kt_rec.specs.Kinds.{under}
use Rattle.kt_cells.specs.Reading.{behind, in_front, rule_after, value_from, row_values, floor_after, table_rows}
use Rattle.kt_cells.specs.Fronts.{RowRead}
use Rattle.kt_cells.specs.Taking.{HandsFront, HandsOver}
use Rattle.kt_rec.specs.declared.kind.Kind.{Kind}
use Rattle.kt_rec.specs.declared.cause.Cause.{Cause}
use Rattle.kt_cells.specs.declared.stop.TableStop.{TableStop}
use Rattle.kt_cells.specs.declared.stop.TableStop.TheVariants.{Bad}

-- nothing before changes nothing
pub behind-nil : {A E : Type 0} (rest : Result (List A) E) → behind [] rest ≡ rest
behind-nil (Ok more) = refl
behind-nil (Err e) = refl

-- a result in front of the rest goes behind what is there
pub behind-in_front : {A E : Type 0} (before : List A) (x : A) (rest : Result (List A) E) → behind before (in_front x rest) ≡ behind (before ++ x ∷ []) rest
behind-in_front before x (Ok more) = ap Ok (sym (append_assoc before (x ∷ []) more))
behind-in_front before x (Err e) = refl

-- a good value stands in front of the rest of its row
pub row_values-value : {C : Type 0} (read : Kind → C → Result ℕ Cause) (rule floor row column value : ℕ) (kind : Kind) (kinds : List Kind) (cell : C) (cells : List C)
    → value_from read floor (under rule kind) cell ≡ Ok value
    → row_values read rule floor row column (kind ∷ kinds) (cell ∷ cells) ≡ in_front value (row_values read (rule_after rule kind value) 0 row (column + 1) kinds cells)
unfolding row_values
row_values-value read rule floor row column value kind kinds cell cells good = rw good refl

module _ {read : Kind → List ℕ → Result ℕ Cause} {row first : ℕ} {kinds : List Kind} {all : Result (List ℕ) TableStop} {values : List ℕ} {done rule least : ℕ} {left : List (List ℕ)} (now : RowRead read row first kinds all values done rule least left) where
  -- a value more
  pub row-more : (d : Kind) (cell : List ℕ) (rest : List (List ℕ)) (value : ℕ) → done < length kinds → left ≡ cell ∷ rest → value_from read least (under rule (get_or kinds done d)) cell ≡ Ok value
      → RowRead read row first kinds all (slice_set values done value) (done + 1) (rule_after rule (get_or kinds done d) value) 0 rest
  row-more d cell rest value column next good =
      let room : done < length values = omega (arith, now.width) in
      let here : drop done kinds ≡ get_or kinds done d ∷ drop (done + 1) kinds = drop_more kinds done d column in
      let step : row_values read rule least row (first + done) (drop done kinds) left ≡ in_front value (row_values read (rule_after rule (get_or kinds done d) value) 0 row (first + done + 1) (drop (done + 1) kinds) rest) =
      rw (here, next) (row_values-value read rule least row (first + done) value (get_or kinds done d) (drop (done + 1) kinds) cell rest good) in
      let place : first + (done + 1) ≡ first + done + 1 = omega arith in
      record {
        so_far = rw (place, take-set_at values done (done + 1) value refl room) (now.so_far ∙ ap (behind (take done values)) step ∙ behind-in_front (take done values) value _);
        width = length-set values done value ∙ now.width;
      }

  -- the place where the row stops
  pub row-stops : (d : Kind) (cell : List ℕ) (rest : List (List ℕ)) (cause : Cause) → done < length kinds → left ≡ cell ∷ rest → value_from read least (under rule (get_or kinds done d)) cell ≡ Err cause → Err (Bad row (first + done) cause) ≡ all
  unfolding row_values
  row-stops d cell rest cause column next bad =
      let here : drop done kinds ≡ get_or kinds done d ∷ drop (done + 1) kinds = drop_more kinds done d column in
      let step : row_values read rule least row (first + done) (drop done kinds) left ≡ Err (Bad row (first + done) cause) = rw (here, next, bad) refl in
      sym (now.so_far ∙ ap (behind (take done values)) step)

  -- all columns are read
  pub row_end : done ≡ length kinds → Ok values ≡ all
  unfolding row_values
  row_end last =
      let none : drop done kinds ≡ [] = rw last (drop-length kinds) in
      let step : row_values read rule least row (first + done) (drop done kinds) left ≡ Ok [] = rw none refl in
      sym (now.so_far ∙ ap (behind (take done values)) step ∙ ap Ok (append-nil _ ∙ take_all done values (omega (arith, now.width, last))))

-- a good row stands in front of the rest of its table
pub table_rows-row : {C : Type 0} (read : Kind → C → Result ℕ Cause) (ordered : Bool) (first : ℕ) (kinds : List Kind) (floor row : ℕ) (values : List ℕ) (cells : List C) (rest : List (List C)) → length cells ≡ length kinds
    → Ok values ≡ row_values read 0 floor row first kinds cells → table_rows read ordered first kinds floor row (cells ∷ rest) ≡ in_front values (table_rows read ordered first kinds (floor_after ordered values) (row + 1) rest)
unfolding table_rows
table_rows-row read ordered first kinds floor row values cells rest width good = rw (eq-eqb (length cells) (length kinds) width, sym good) refl

-- a bad row stops its table
pub table_rows-stops : {C : Type 0} (read : Kind → C → Result ℕ Cause) (ordered : Bool) (first : ℕ) (kinds : List Kind) (floor row : ℕ) (stop : TableStop) (cells : List C) (rest : List (List C)) → length cells ≡ length kinds
    → Err stop ≡ row_values read 0 floor row first kinds cells → table_rows read ordered first kinds floor row (cells ∷ rest) ≡ Err stop
unfolding table_rows
table_rows-stops read ordered first kinds floor row stop cells rest width bad = rw (eq-eqb (length cells) (length kinds) width, sym bad) refl

-- before the first row
pub front-start : {has_taken : List (List ℕ) → Type 0} {all : Result (List (List ℕ)) TableStop} → has_taken [] → HandsFront has_taken all all
front-start fresh = record { rows = []; are_taken = fresh; so_far = sym (behind-nil _) }

module _ {has_taken : List (List ℕ) → Type 0} {all left : Result (List (List ℕ)) TableStop} (now : HandsFront has_taken all left) where
  -- a row more is handed over
  pub front-more : (has_taken_more : List (List ℕ) → Type 0) (values : List ℕ) (rest : Result (List (List ℕ)) TableStop) → left ≡ in_front values rest → ((rows : List (List ℕ)) → has_taken rows → has_taken_more (rows ++ values ∷ []))
      → HandsFront has_taken_more all rest
  front-more has_taken_more values rest next take = record {
    rows = now.rows ++ values ∷ [];
    are_taken = take now.rows now.are_taken;
    so_far = now.so_far ∙ ap (behind now.rows) next ∙ behind-in_front now.rows values rest;
  }

  -- what stops the rows that are left stops all
  pub front-stops : (stop : TableStop) → left ≡ Err stop → all ≡ Err stop
  front-stops stop stopped = now.so_far ∙ ap (behind now.rows) stopped

  -- all rows are handed over
  pub front-end : left ≡ Ok [] → HandsOver has_taken all
  front-end none = record { rows = now.rows; are_read = now.so_far ∙ ap (behind now.rows) none ∙ ap Ok (append-nil now.rows); are_taken = now.are_taken }
