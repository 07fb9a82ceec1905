-- Names of files, no two of which are equal.
-- The rules: docs/REFUSALS.md, "Statuses".
use Rattle.std.proofs.Common.{refl}
use Rattle.std.specs.Prelude.{◌≡◌, ℕ, Bool, true, false, List, [], ◌∷◌, ◌||◌, ◌&&◌, not}
use Rattle.std.specs.Str.{bytes_eq}

-- whether a name is one of some names
abbrev pub is_among : List ℕ → List (List ℕ) → Bool
is_among name [] = false
is_among name (other ∷ names) = bytes_eq name other || is_among name names

-- no two of the names are equal
abbrev pub AreDistinct : List (List ℕ) → Type 0
AreDistinct [] = Unit {0}
AreDistinct (name ∷ names) = (is_among name names ≡ false) × AreDistinct names

-- whether no two of the names are equal
abbrev pub are_distinct : List (List ℕ) → Bool
are_distinct [] = true
are_distinct (name ∷ names) = not (is_among name names) && are_distinct names

-- two tests, of which the first fails and the second holds
both_hold : (found rest : Bool) → (not found && rest) ≡ true → (found ≡ false) × (rest ≡ true)
both_hold true rest both = cc
both_hold false rest both = (refl, both)

-- names are distinct where the test says so: for a list of known names it is `refl`
pub distinct_by_test : (names : List (List ℕ)) → are_distinct names ≡ true → AreDistinct names
distinct_by_test [] holds = tt
distinct_by_test (name ∷ names) holds =
    let both = both_hold (is_among name names) (are_distinct names) holds in (both.0, distinct_by_test names both.1)
