-- An adapter over a reader or a writer, as contracts see it, and the bytes of a call that was made again.
-- The rule: docs/ARCHITECTURE.md, "The outside".
use Rattle.std.specs.Prelude.{ℕ, Option, None, Some, Result, Ok, Err}
use Rattle.kt_out.specs.declared.fault.Failed.{Failed}

-- what the adapter stands over, and how many of its calls have failed
pub record Adapted (A : Type 0) : Type 0 where
  pub inner : A
  pub faults : ℕ

-- the answer of a call, or that it failed
abbrev pub ok_or_failed : Option ℕ → Result ℕ Failed
ok_or_failed None = Err (record {})
ok_or_failed (Some n) = Ok n
