-- Outlets by rising id, each id once.
-- The rule: docs/FINANCIAL_MODULE.md, "Insured losses".
use Rattle.std.specs.Prelude.{◌≡◌, ℕ, nat_eq, List, Option, map}
use Rattle.std.specs.Map.{lookup}
use Rattle.kt_rec.specs.Rising.{IsRising}
use Rattle.kt_alloc.specs.declared.outlets.Outlet.{Outlet}

-- the first outlet of an id
abbrev pub found : ℕ → List Outlet → Option Outlet
found id outlets = lookup (nat_eq id) (map (λ outlet. (outlet.id, outlet)) outlets)

-- the first outlets of the ids of some, by rising id
pub record AreFirsts (outlets kept : List Outlet) : Type 0 where
  pub rises : IsRising (map (λ outlet. outlet.id) kept)
  pub same : (id : ℕ) → found id kept ≡ found id outlets
