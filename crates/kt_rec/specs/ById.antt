-- Amounts of ids, in order of id.
-- The rule: docs/FINANCIAL_MODULE.md, "Allocation".
use Rattle.std.specs.Prelude.{ℕ, ◌+◌, cond, nat_eq, List, [], ◌∷◌}

-- the amounts of ids, with more for one of them
abbrev pub with_more : List ℕ → List ℕ → ℕ → ℕ → List ℕ
with_more (id ∷ ids) (amount ∷ amounts) other more = (amount + cond (nat_eq other id) more 0) ∷ with_more ids amounts other more
with_more ids amounts other more = []
