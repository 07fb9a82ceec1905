-- The rows of a vulnerability at an intensity are those of the key that joins both.
use Rattle.std.proofs.Common.{◌≡◌, ℕ, ◌+◌, ◌*◌, ◌^◌, ◌<◌, cond, List, [], ◌∷◌, refl, ap, ◌∙◌, nat_eq, nat_le, arith, ◌≤◌, Bool, true, false}
use Rattle.std.specs.Prelude.{◌&&◌, All}
use Rattle.std.specs.List.{filter}
use Rattle.std.proofs.lemmas.Bool.{eqb-true}
use Rattle.std.proofs.lemmas.Bool.Decides.{nat_tests}
use Rattle.std.proofs.lemmas.List.Elements.{All-head, All-tail}
use Rattle.kt_rec.specs.declared.hazard.Vulnerability.{Vulnerability}
use Rattle.kt_rec.specs.Ranges.{IsItem, IsVulnerability}
use Rattle.kt_rec.specs.declared.exposure.Item.{Item}
use Rattle.kt_tables.specs.Kept.{damage_key, item_key}

-- keys that join two numbers are equal where both are
key_eq : (a b c d : ℕ) → b < 4294967296 → d < 4294967296 → nat_eq (a * 4294967296 + b) (c * 4294967296 + d) ≡ (nat_eq a c && nat_eq b d)
key_eq a b c d short other = grind (arith, nat_tests)

-- the rows of a key that joins two numbers are those of both
rows_by_key : {X : Type 0} (one other : X → ℕ) (first second : ℕ) → second < 2 ^ 32 → (rows : List X) → All (λ row. other row < 2 ^ 32) rows → filter (λ row. nat_eq (one row * 2 ^ 32 + other row) (first * 2 ^ 32 + second)) rows ≡ filter (λ row. nat_eq (one row) first && nat_eq (other row) second) rows
rows_by_key one other first second short [] few = refl
rows_by_key {X} one other first second short (row ∷ rows) few =
    let rest = rows_by_key one other first second short rows (All-tail (λ (x : X). other x < 2 ^ 32) row rows few) in
    ap (λ b. cond b (row ∷ filter (λ x. nat_eq (one x * 2 ^ 32 + other x) (first * 2 ^ 32 + second)) rows) (filter (λ x. nat_eq (one x * 2 ^ 32 + other x) (first * 2 ^ 32 + second)) rows)) (key_eq (one row) (other row) first second (All-head (λ (x : X). other x < 2 ^ 32) row rows few) short)
    ∙ ap (λ later. cond (nat_eq (one row) first && nat_eq (other row) second) (row ∷ later) later) rest

-- the damage of a vulnerability at an intensity
pub damages_by_key : (vulnerability intensity : ℕ) → intensity < 2 ^ 32 → (rows : List Vulnerability) → All IsVulnerability rows → filter (λ row. nat_eq (damage_key row) (vulnerability * 2 ^ 32 + intensity)) rows ≡ filter (λ row. nat_eq row.vulnerability_id vulnerability && nat_eq row.intensity_bin_id intensity) rows
damages_by_key vulnerability intensity short rows ranges =
    rows_by_key (λ row. row.vulnerability_id) (λ row. row.intensity_bin_id) vulnerability intensity short rows (λ k d below. let low = (ranges k d below).most_intensity in omega arith)

-- the items of an areaperil and a vulnerability
pub items_by_key : (areaperil vulnerability : ℕ) → vulnerability < 2 ^ 32 → (rows : List Item) → All IsItem rows → filter (λ row. nat_eq (item_key row) (areaperil * 2 ^ 32 + vulnerability)) rows ≡ filter (λ row. nat_eq row.areaperil_id areaperil && nat_eq row.vulnerability_id vulnerability) rows
items_by_key areaperil vulnerability short rows ranges =
    rows_by_key (λ row. row.areaperil_id) (λ row. row.vulnerability_id) areaperil vulnerability short rows (λ k d below. let id = (ranges k d below).vulnerability_id in let low = id.most in omega arith)

-- a filter by what a wider one keeps
filter_in : {X : Type 0} (test wide : X → Bool) → ((row : X) → test row ≡ true → wide row ≡ true) → (rows : List X) → filter test (filter wide rows) ≡ filter test rows
filter_in test wide implies [] = refl
filter_in {X} test wide implies (row ∷ rows) = by (wide row) refl (filter_in test wide implies rows)
  where
    no : (a : Bool) → test row ≡ a → wide row ≡ false → filter test rows ≡ cond a (row ∷ filter test rows) (filter test rows)
    no true h e = let t = implies row h in cc
    no false h e = refl

    by : (b : Bool) → wide row ≡ b → filter test (filter wide rows) ≡ filter test rows → filter test (cond b (row ∷ filter wide rows) (filter wide rows)) ≡ cond (test row) (row ∷ filter test rows) (filter test rows)
    by true e rest = ap (λ later. cond (test row) (row ∷ later) later) rest
    by false e rest = rest ∙ no (test row) refl e

-- a number of a range is in it
range_in : (low top n : ℕ) → low ≤ n → n ≤ top → (nat_le low n && nat_le n top) ≡ true
range_in low top n h k = grind (arith, nat_tests)

-- the rows of a key among those of a range that has it
pub narrowed : {X : Type 0} (key_of : X → ℕ) (low top key : ℕ) → low ≤ key → key ≤ top → (rows : List X) → filter (λ row. nat_eq (key_of row) key) (filter (λ row. nat_le low (key_of row) && nat_le (key_of row) top) rows) ≡ filter (λ row. nat_eq (key_of row) key) rows
narrowed key_of low top key above below rows =
    filter_in (λ row. nat_eq (key_of row) key) (λ row. nat_le low (key_of row) && nat_le (key_of row) top)
    (λ row is. let same = eqb-true (key_of row) key is in range_in low top (key_of row) (omega arith) (omega arith))
    rows
