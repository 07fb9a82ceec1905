-- How far the rows of a text are read, rows of one width and the first of another; and a field of a row.
use Rattle.std.proofs.Common.{◌≡◌, ℕ, zero, suc, ◌<◌, Bor, List, [], ◌∷◌, ◌++◌, length, get_or, Some, refl, arith, append_assoc, length-append}
use Rattle.std.proofs.lemmas.Bool.{eq-eqb}
use Rattle.std.proofs.lemmas.Bool.Decides.{nat_tests}
use Rattle.std.proofs.lemmas.List.{append-nil, length-map}
use Rattle.std.proofs.lemmas.List.Folds.{prefix_len-append}
use Rattle.std.specs.List.{prefix_len}
use Rattle.csv.specs.Records.{field_at}
use Rattle.csv.specs.declared.reader.Reader.{Reader}
use Rattle.kt_text.specs.Records.{StandsBetween, records_left}
use Rattle.kt_text.specs.Rows.{has_width, AreEven}

-- the rows that were read are those in front of the ones that are left
pub record RowsRead (columns : ℕ) (start now : Reader (Bor (List ℕ))) (rows : List (List (List ℕ))) : Type 0 where
  pub stands : StandsBetween now
  pub even : AreEven columns rows
  pub read : records_left start ≡ rows ++ records_left now

-- a row more
pub AreEven-more : (columns : ℕ) (rows : List (List (List ℕ))) (row : List (List ℕ)) → AreEven columns rows → length row ≡ columns → AreEven columns (rows ++ row ∷ [])
AreEven-more columns [] row even width = (width, tt)
AreEven-more columns (first ∷ rows) row even width = (even.0, AreEven-more columns rows row even.1 width)

-- even rows pass
pub even_pass : (columns : ℕ) (rows : List (List (List ℕ))) → AreEven columns rows → prefix_len (has_width columns) rows ≡ length rows
even_pass columns [] even = refl
even_pass columns (row ∷ rows) even = rw (eq-eqb (length row) columns even.0) (omega (arith, even_pass columns rows even.1))

pub ruleset row_reading = (even_pass, prefix_len-append, length-append, length-map, append-nil, append_assoc, AreEven-more, nat_tests)

-- the field at a place within the record
pub field_within : (fields : List (List ℕ)) (i : ℕ) → i < length fields → field_at fields i ≡ Some (get_or fields i [])
unfolding field_at
field_within [] i h = absurd (omega arith)
field_within (f ∷ fs) zero h = refl
field_within (f ∷ fs) (suc i) h = field_within fs i (omega arith)
