-- What a contract sees of the slots of a round.
-- The rule: docs/ARCHITECTURE.md, "A run of all stages".
use Rattle.std.specs.Prelude.{◌≡◌, ℕ, ◌<◌, ◌≤◌, Option, None, slice_index_or}
use Rattle.kt_claims.specs.declared.reorder.Reorder.{Reorder}

module _ {B : Type 0} where
  -- the block that is held for a number
  abbrev pub held_at : Reorder B → ℕ → Option B
  held_at reorder number = slice_index_or reorder.slots.items number None

  -- the number whose block is taken next
  abbrev pub next_of : Reorder B → ℕ
  next_of reorder = reorder.next

  -- the block of a number may be put
  pub record HasRoom (reorder : Reorder B) (number : ℕ) : Type 0 where
    pub later : next_of reorder ≤ number
    pub within : number < 16
    pub empty : held_at reorder number ≡ None
