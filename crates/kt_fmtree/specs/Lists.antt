-- Lists that stand one behind the other.
-- The rule: docs/FINANCIAL_MODULE.md, "Levels".
use Rattle.std.specs.Prelude.{◌≡◌, ℕ, zero, suc, ◌-◌, ◌≤◌, List, [], ◌∷◌, take, drop}

-- the lists that stand one behind the other from a place on, up to their ends
abbrev pub lists_from : {X : Type 0} → ℕ → List X → List ℕ → List (List X)
lists_from start all [] = []
lists_from start all (end ∷ ends) = take (end - start) (drop start all) ∷ lists_from end all ends

-- a list ends where it begins or behind it, and among so many
pub record IsSpan (start end count : ℕ) : Type 0 where
  pub after : start ≤ end
  pub within : end ≤ count

-- lists stand one behind the other from a place on, and the last ends behind all of so many
abbrev pub AreEnds : ℕ → ℕ → List ℕ → Type 0
AreEnds start count [] = start ≡ count
AreEnds start count (end ∷ ends) = IsSpan start end count × AreEnds end count ends

-- where the list in a place begins
abbrev pub start_at : ℕ → List ℕ → ℕ → ℕ
start_at start ends zero = start
start_at start [] (suc place) = start
start_at start (end ∷ ends) (suc place) = start_at end ends place
