-- Which keys are of a perspective and set.
use Rattle.std.proofs.Common.{◌≡◌, ℕ}
use Rattle.std.specs.Prelude.{true, nat_eq}
use Rattle.std.proofs.lemmas.Bool.{and_parts}
use Rattle.std.proofs.lemmas.Bool.Decides.{Decides-eqb}
use Rattle.kt_rec.specs.declared.perspective.Perspective.{Perspective}
use Rattle.kt_rec.specs.declared.perspective.CellKey.{CellKey}
use Rattle.kt_cell.specs.Losses.{same_perspective}
use Rattle.kt_cell.specs.Sets.{in_set}
use Rattle.kt_cell.specs.SameKeys.{perspective_same}

-- a key that is in a set
pub in_set_is : (p : Perspective) (s : ℕ) (key : CellKey) → in_set p s key ≡ true → (key.perspective ≡ p) × (key.set ≡ s)
in_set_is p s key same =
    let parts = and_parts (same_perspective key.perspective p) (nat_eq key.set s) same in
    (perspective_same key.perspective p parts.0, (Decides-eqb key.set s).0 parts.1)
