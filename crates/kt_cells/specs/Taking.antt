-- What a sink has taken of the rows of a table that are read.
-- The rule: docs/ARCHITECTURE.md, "One form for each thing".
use Rattle.std.specs.Prelude.{◌≡◌, ℕ, List, [], ◌∷◌, ◌++◌, length, Result, Ok}
use Rattle.std.proofs.Common.{ap, sym, subst, ◌∙◌}
use Rattle.kt_text.specs.PlainText.{csv_records}
use Rattle.kt_cells.specs.Reading.{behind, row_values, Tells-and_then}
use Rattle.kt_cells.specs.Stops.{Tells}
use Rattle.kt_cells.specs.Texts.{text_value}
use Rattle.kt_rec.specs.declared.kind.Kind.{Kind}
use Rattle.kt_cells.specs.declared.stop.TableStop.{TableStop}

-- what was there stands in front, and maybe more behind it
abbrev pub HasMore : List ℕ → List ℕ → Type 0
HasMore old new = (more : List ℕ) × (new ≡ old ++ more)

-- all rows were read, and the sink has taken them
pub record HandsOver (has_taken : List (List ℕ) → Type 0) (read : Result (List (List ℕ)) TableStop) : Type 0 where
  pub rows : List (List ℕ)
  pub are_read : read ≡ Ok rows
  pub are_taken : has_taken rows

-- some of all rows were read, and the sink has taken them; these are left
pub record HandsFront (has_taken : List (List ℕ) → Type 0) (all left : Result (List (List ℕ)) TableStop) : Type 0 where
  pub rows : List (List ℕ)
  pub are_taken : has_taken rows
  pub so_far : all ≡ behind rows left

-- whatever a sink had taken, it has taken these rows besides
abbrev pub TakesMore : {S : Type 0} → (S → List (List ℕ) → S → Type 0) → S → S → List (List ℕ) → Type 0
TakesMore {S = S} takes_to old new more = (start : S) (rows : List (List ℕ)) → takes_to start rows old → takes_to start (rows ++ more) new

-- the next row of a text has these values, where the first of them is not to be below the floor, and the others stand in the rest
pub record HasRow (kinds : List Kind) (floor : ℕ) (text values rest : List ℕ) : Type 0 where
  pub fields : List (List ℕ)
  pub split : csv_records text ≡ fields ∷ csv_records rest
  pub width : length fields ≡ length kinds
  pub read : (number : ℕ) → Ok values ≡ row_values text_value 0 floor number 1 kinds fields

-- rows at the front that are handed over, and then those that are left, are all rows
pub front-over : {S : Type 0} (takes_to : S → List (List ℕ) → S → Type 0) (start now end : S) (all left : Result (List (List ℕ)) TableStop) → HandsFront (TakesMore takes_to start now) all left → HandsOver (TakesMore takes_to now end) left → takes_to start [] start → HandsOver (λ rows. takes_to start rows end) all
front-over takes_to start now end all left front over fresh = record {
  rows = front.rows ++ over.rows;
  are_read = front.so_far ∙ ap (behind front.rows) over.are_read;
  are_taken = over.are_taken start front.rows (front.are_taken start [] fresh);
}

-- what stops the rows that are left stops all
pub front-tells : {has_taken : List (List ℕ) → Type 0} (all left : Result (List (List ℕ)) TableStop) (stop : TableStop) → HandsFront has_taken all left → Tells left stop → Tells all stop
front-tells all left stop front told = subst (λ (rows : Result (List (List ℕ)) TableStop). Tells rows stop) (sym front.so_far) (Tells-and_then left (λ more. Ok (front.rows ++ more)) stop told)
