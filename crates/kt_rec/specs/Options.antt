-- What follows where none of several options is there.
-- The rule: docs/PROVING.md, "Laws".
use Rattle.std.specs.Prelude.{◌≡◌, Option, Some, None, refl}
use Rattle.std.specs.Option.{option_or}

-- where the first of two is none, both are none
pub both_none : {A : Type 0} (one other : Option A) → option_or one other ≡ None → (one ≡ None) × (other ≡ None)
both_none None other none = (refl, none)
both_none (Some found) other none = cc
