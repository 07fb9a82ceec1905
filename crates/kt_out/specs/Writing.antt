-- A sink as contracts see it, and what writes do to it.
-- The rule: docs/ARCHITECTURE.md, "The outside".
use Rattle.std.specs.Prelude.{◌≡◌, ℕ, ◌≤◌, List, ◌++◌, length, take, Option, None, Some, Result, Ok, Err}
use Rattle.kt_kept_files.specs.Counts.{Rose}
use Rattle.kt_out.specs.declared.fault.Fault.{Fault}
use Rattle.kt_out.specs.declared.fault.Fault.TheVariants.{Failed, OutOfMemory}

-- the bytes that writes have given so far, where they are known, and how many writes have failed
pub record SinkState : Type 0 where
  pub taken : Option (List ℕ)
  pub faults : ℕ

-- the sink has taken these bytes, behind what it had
abbrev pub Gains : Option (List ℕ) → Option (List ℕ) → List ℕ → Type 0
Gains None now bytes = now ≡ None
Gains (Some taken) now bytes = now ≡ Some (taken ++ bytes)

-- the sink has taken some front of a piece
pub record GainsFront (before now : Option (List ℕ)) (piece : List ℕ) : Type 0 where
  pub length_taken : ℕ
  pub within : length_taken ≤ length piece
  pub gained : Gains before now (take length_taken piece)

-- a write of these bytes: no fault was counted
pub record WritesBytes (before after : SinkState) (bytes : List ℕ) : Type 0 where
  pub moved : Gains before.taken after.taken bytes
  pub counted : after.faults ≡ before.faults

-- a write that failed: a fault was counted, and nothing is taken
pub record FailsToWrite (before after : SinkState) : Type 0 where
  pub kept : after.taken ≡ before.taken
  pub counted : Rose before.faults after.faults

-- what one write did: the sink before and after it, the piece, and the answer
abbrev pub Writes : SinkState → SinkState → List ℕ → Result ℕ Fault → Type 0
Writes before after piece (Ok n) = WritesBytes before after (take n piece)
Writes before after piece (Err Failed) = FailsToWrite before after
Writes before after piece (Err OutOfMemory) = after ≡ before

-- the writes of a piece ended at one that failed: some front was taken, and the fault was counted
pub record FailsWithin (before after : SinkState) (piece : List ℕ) : Type 0 where
  pub front : GainsFront before.taken after.taken piece
  pub counted : Rose before.faults after.faults

-- the writes of a piece ended for want of memory: some front was taken, and no fault was counted
pub record EndsWithin (before after : SinkState) (piece : List ℕ) : Type 0 where
  pub front : GainsFront before.taken after.taken piece
  pub counted : after.faults ≡ before.faults

-- what the writes of a whole piece did: all of it is taken, or after a fault some front of it
abbrev pub WritesAll : {T : Type 0} → SinkState → SinkState → List ℕ → Result T Fault → Type 0
WritesAll before after piece (Ok done) = WritesBytes before after piece
WritesAll before after piece (Err Failed) = FailsWithin before after piece
WritesAll before after piece (Err OutOfMemory) = EndsWithin before after piece
