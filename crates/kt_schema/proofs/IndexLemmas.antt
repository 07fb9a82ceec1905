-- How far the index of the footprint is written.
use Rattle.std.proofs.Common.{◌≡◌, ℕ, ◌+◌, ◌<◌, true, false, List, [], ◌∷◌, ◌++◌, length, drop, get_or, arith, append_assoc, add-one, drop-cons}
use Rattle.std.specs.Prelude.{◌==◌}
use Rattle.std.proofs.lemmas.Bool.Decides.{nat_tests}
use Rattle.std.proofs.lemmas.List.{append-nil}
use Rattle.kt_cells.specs.Records.{record_bytes, records_bytes}
use Rattle.kt_rec.specs.declared.table.Table.TheVariants.{FootprintIdx}
use Rattle.kt_schema.specs.Index.{index_of, index_from, index_row, event_of}
use Rattle.kt_schema.specs.Tables.{kinds_of}

-- an element in front of what is left behind it
pub drop-step : {A : Type 0} (xs : List A) (i : ℕ) (d : A) → i < length xs → drop i xs ≡ get_or xs i d ∷ drop (i + 1) xs
drop-step xs i d here = rw add-one (drop-cons xs i d here)

-- a row more of the same event
pub index-same : (start : List ℕ) (all : List (List ℕ) → List (List ℕ)) (out : List ℕ) (event offset size : ℕ) (rows : List (List ℕ)) (row : List ℕ) → event_of row ≡ event
    → ((more : List (List ℕ)) → out ++ records_bytes (kinds_of FootprintIdx) (index_from event offset size more) ≡ start ++ records_bytes (kinds_of FootprintIdx) (all (rows ++ more)))
    → (more : List (List ℕ)) → out ++ records_bytes (kinds_of FootprintIdx) (index_from event offset (size + 12) more) ≡ start ++ records_bytes (kinds_of FootprintIdx) (all ((rows ++ row ∷ []) ++ more))
unfolding index_from
index-same start all out event offset size rows row same now more =
    let test : (event_of row == event) ≡ true = grind (arith, nat_tests, same) in
    rw (append_assoc rows (row ∷ []) more) (rw test at (now (row ∷ more)))

-- a row of another event
pub index-next : (start : List ℕ) (all : List (List ℕ) → List (List ℕ)) (out next : List ℕ) (event offset size : ℕ) (rows : List (List ℕ)) (row : List ℕ) → (event_of row ≡ event → ⊥)
    → next ≡ out ++ record_bytes (kinds_of FootprintIdx) (index_row event offset size)
    → ((more : List (List ℕ)) → out ++ records_bytes (kinds_of FootprintIdx) (index_from event offset size more) ≡ start ++ records_bytes (kinds_of FootprintIdx) (all (rows ++ more)))
    → (more : List (List ℕ)) → next ++ records_bytes (kinds_of FootprintIdx) (index_from (event_of row) (offset + size) 12 more) ≡ start ++ records_bytes (kinds_of FootprintIdx) (all ((rows ++ row ∷ []) ++ more))
unfolding records_bytes index_from
index-next start all out next event offset size rows row other written now more =
    let test : (event_of row == event) ≡ false = grind (arith, nat_tests, other) in
    rw (written, append_assoc out _ _, append_assoc rows (row ∷ []) more) (rw test at (now (row ∷ more)))

-- the first row
pub index-first : (start : List ℕ) (all : List (List ℕ) → List (List ℕ)) (out : List ℕ) (rows : List (List ℕ)) (row : List ℕ)
    → ((more : List (List ℕ)) → out ++ records_bytes (kinds_of FootprintIdx) (index_of more) ≡ start ++ records_bytes (kinds_of FootprintIdx) (all (rows ++ more)))
    → (more : List (List ℕ)) → out ++ records_bytes (kinds_of FootprintIdx) (index_from (event_of row) 16 12 more) ≡ start ++ records_bytes (kinds_of FootprintIdx) (all ((rows ++ row ∷ []) ++ more))
unfolding index_of
index-first start all out rows row now more = rw (append_assoc rows (row ∷ []) more) (now (row ∷ more))

-- the last row of the index
pub index-last : (out next : List ℕ) (event offset size : ℕ) → next ≡ out ++ record_bytes (kinds_of FootprintIdx) (index_row event offset size) → next ≡ out ++ records_bytes (kinds_of FootprintIdx) (index_from event offset size [])
unfolding records_bytes index_from
index-last out next event offset size written = rw append-nil written

-- three pieces, one after the other
pub text-three : (start one two three a b c : List ℕ) → one ≡ start ++ a → two ≡ one ++ b → three ≡ two ++ c → three ≡ start ++ (a ++ (b ++ (c ++ [])))
text-three start one two three a b c first second third = rw (third, second, first, append-nil) (simp append_assoc)
