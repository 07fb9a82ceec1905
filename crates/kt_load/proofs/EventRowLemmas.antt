-- Footprint rows of bytes: how many they are, those of bytes behind each other, and those of a front; and the place of an event.
use Rattle.std.proofs.Common.{◌≡◌, ℕ, zero, suc, ◌+◌, ◌-◌, ◌*◌, ◌/◌, ◌%◌, ◌<◌, ◌≤◌, List, [], ◌∷◌, ◌++◌, length, take, drop, true, refl, ap, ◌∙◌, arith}
use Rattle.std.specs.Prelude.{IfSome, nat_eq}
use Rattle.std.proofs.lemmas.List.{drop-drop}
use Rattle.std.proofs.lemmas.List.Elements.{All-map}
use Rattle.std.proofs.lemmas.Map.Entries.{All-lookup}
use Rattle.std.proofs.Math.Nat.{add-mul-div_left, div-add-mod}
use Rattle.kt_keys.specs.Refusals.{is_loaded}
use Rattle.kt_rec.specs.declared.hazard.FootprintIdx.{FootprintIdx}
use Rattle.kt_rec.specs.declared.table.Table.TheVariants as table
use Rattle.kt_tables.specs.Lookups.{place_in}
use Rattle.kt_tables.specs.Portfolio.{IsPortfolio, PortfolioRows}
use Rattle.kt_tables.specs.PortfolioLaws.{names_kept}
use Rattle.kt_tables.specs.declared.place.Place.{Place}
use Rattle.kt_load.proofs.FrontLemmas.{behind_front, number_of_front}
use Rattle.kt_load.specs.EventRows.{LiesWithin, foot_row, foot_rows_in}

-- no row
pub no_row : (bytes : List ℕ) → foot_rows_in 0 bytes ≡ []
unfolding foot_rows_in
no_row bytes = refl

-- as many rows as were asked for
pub length_rows : (n : ℕ) (bytes : List ℕ) → length (foot_rows_in n bytes) ≡ n
unfolding foot_rows_in
length_rows zero bytes = refl
length_rows (suc n) bytes = ap suc (length_rows n (drop 12 bytes))

-- rows behind others
pub rows_behind : (m n : ℕ) (bytes : List ℕ) → foot_rows_in (m + n) bytes ≡ foot_rows_in m bytes ++ foot_rows_in n (drop (12 * m) bytes)
unfolding foot_rows_in
rows_behind zero n bytes =
    let none : zero + n ≡ n = omega arith in
    rw none refl
rows_behind (suc m) n bytes =
    let steps : suc m + n ≡ suc (m + n) = omega arith in
    let place : 12 + 12 * m ≡ 12 * suc m = omega arith in
    rw (steps, rows_behind m n (drop 12 bytes), drop-drop (12 * m) 12 bytes, place) refl

-- one row more
pub rows_more : (n : ℕ) (bytes : List ℕ) → foot_rows_in (n + 1) bytes ≡ foot_rows_in n bytes ++ foot_row (drop (12 * n) bytes) ∷ []
unfolding foot_rows_in
rows_more n bytes = rows_behind n 1 bytes

-- the rows of whole bytes behind each other
pub rows_joined : (a b : ℕ) (bytes : List ℕ) → a % 12 ≡ 0 → foot_rows_in ((a + b) / 12) bytes ≡ foot_rows_in (a / 12) bytes ++ foot_rows_in (b / 12) (drop a bytes)
rows_joined a b bytes is =
    let whole : 12 * (a / 12) ≡ a = omega (arith, div-add-mod a 12, is) in
    let sum : a + b ≡ b + 12 * (a / 12) = omega (arith, whole) in
    let some : zero < 12 = omega arith in
    let parts : (b + 12 * (a / 12)) / 12 ≡ b / 12 + a / 12 = add-mul-div_left b (a / 12) some in
    let swapped : b / 12 + a / 12 ≡ a / 12 + b / 12 = omega arith in
    ap (λ n. foot_rows_in n bytes) (ap (λ n. n / 12) sum ∙ parts ∙ swapped)
    ∙ rows_behind (a / 12) (b / 12) bytes
    ∙ ap (λ n. foot_rows_in (a / 12) bytes ++ foot_rows_in (b / 12) (drop n bytes)) whole

-- an event that the index has lies in the file
pub lies_within : (portfolio : PortfolioRows) (event : ℕ) → IsPortfolio portfolio → is_loaded portfolio.need 0 table.Footprint ≡ true → IfSome (place_in portfolio.rows event) (LiesWithin portfolio.rows.footprint_size)
lies_within portfolio event valid footprint =
    All-lookup (LiesWithin portfolio.rows.footprint_size) (nat_eq event) _
    (All-map (λ (e : ℕ × Place). LiesWithin portfolio.rows.footprint_size e.1) (λ (row : FootprintIdx). (row.event_id, record { at = row.offset; size = row.size })) portfolio.rows.footprint_idx (λ k d below. let placed = (names_kept portfolio valid).places footprint k d below in record { whole = placed.whole_size; few = placed.few; within = placed.within }))

-- a row is read of its own bytes alone
row_of_front : (size : ℕ) (bytes : List ℕ) → 12 ≤ size → foot_row (take size bytes) ≡ foot_row bytes
row_of_front size bytes long = rw (number_of_front size 0 bytes (omega arith), number_of_front size 4 bytes (omega arith), number_of_front size 8 bytes (omega arith)) refl

-- rows are read of their own bytes alone
pub rows_of_front : (size n : ℕ) (bytes : List ℕ) → 12 * n ≤ size → foot_rows_in n (take size bytes) ≡ foot_rows_in n bytes
unfolding foot_rows_in
rows_of_front size zero bytes fits = refl
rows_of_front size (suc n) bytes fits = rw (behind_front size 12 bytes (omega arith), rows_of_front (size - 12) n (drop 12 bytes) (omega arith), row_of_front size bytes (omega arith)) refl
