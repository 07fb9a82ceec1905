-- A source as contracts see it, and what one read does to it.
-- The rule: docs/ARCHITECTURE.md, "The outside".
use Rattle.std.specs.Prelude.{◌≡◌, ◌↔◌, ℕ, ◌≤◌, List, [], ◌++◌, length, take, drop, Option, None, Some, Result, Ok, Err}
use Rattle.kt_kept_files.specs.Counts.{Rose}

-- the bytes that reads will give from here on, where they are known, and how many reads have failed
pub record SourceState : Type 0 where
  pub left : Option (List ℕ)
  pub faults : ℕ

-- a read gave the first n of the bytes that were left, into the front of the room; none exactly at the end
pub record Gives (left : List ℕ) (now : Option (List ℕ)) (room filled : List ℕ) (n : ℕ) : Type 0 where
  pub fits : n ≤ length room
  pub was_left : n ≤ length left
  pub at_end : n ≡ 0 ↔ left ≡ []
  pub rest : now ≡ Some (drop n left)
  pub bytes : filled ≡ take n left ++ drop n room

-- the same, where the bytes that were left are known
abbrev pub GivesKnown : Option (List ℕ) → Option (List ℕ) → List ℕ → List ℕ → ℕ → Type 0
GivesKnown None now room filled n = now ≡ None
GivesKnown (Some left) now room filled n = Gives left now room filled n

-- a read that gave n bytes: no fault was counted
pub record ReadsBytes (before after : SourceState) (room filled : List ℕ) (n : ℕ) : Type 0 where
  pub moved : GivesKnown before.left after.left room filled n
  pub counted : after.faults ≡ before.faults

-- a read that failed: a fault was counted, and nothing is read
pub record FailsToRead (before after : SourceState) : Type 0 where
  pub kept : after.left ≡ before.left
  pub counted : Rose before.faults after.faults

-- what a read did: the source before and after it, the buffer before and after it, and its answer
abbrev pub Reads : {E : Type 0} → SourceState → SourceState → List ℕ → List ℕ → Result ℕ E → Type 0
Reads before after room filled (Ok n) = ReadsBytes before after room filled n
Reads before after room filled (Err failed) = FailsToRead before after
