-- A clear run comes to what its outcome says.
use Rattle.std.proofs.Common.{ℕ, List, Result, refl, inl, inr}
use Rattle.kt_out.specs.Counts.{HasRisen, rose_has_risen}
use Rattle.kt_out.specs.NamedFiles.{FileMap}
use Rattle.kt_out.specs.Writing.{SinkState}
use Rattle.kt_ends.specs.Clear.{IsComplete}
use Rattle.kt_ends.specs.Ending.{OneRose}
use Rattle.kt_ends.specs.Outcome.{Outcome}
use Rattle.kt_ends.specs.World.{World, Uses}
use Rattle.kt_ends.specs.declared.status.Status.{Status}
use Rattle.kt_ends.specs.declared.status.Status.TheVariants as status
use Rattle.kt_words.specs.declared.command.Command.{Command}
use Rattle.kt_words.specs.declared.stop.WordStop.{WordStop}

-- of two counts neither rose
neither : (one one_now other other_now : ℕ) → (HasRisen one one_now → ⊥) → (HasRisen other other_now → ⊥) → OneRose one one_now other other_now → ⊥
neither one one_now other other_now not not_other (inl rose) = not (rose_has_risen one one_now rose.0)
neither one one_now other other_now not not_other (inr rose) = not_other (rose_has_risen other other_now rose.0)

pub is_complete : (read : Result Command WordStop) (uses : Uses) (made : FileMap → List ℕ → Outcome) (before after : World) (err err_now : SinkState) (answer : Status) → IsComplete read uses made before after err err_now answer
is_complete read uses made before after err err_now status.ReadFault ended clear files source finds = absurd (neither before.source.faults after.source.faults before.inputs.faults after.inputs.faults clear.source clear.inputs ended.counted.rose)
is_complete read uses made before after err err_now status.WriteFault ended clear files source finds = absurd (neither before.sink.faults after.sink.faults before.outputs.faults after.outputs.faults clear.sink clear.outputs ended.counted.rose)
is_complete read uses made before after err err_now status.NoMemory ended clear files source finds = inr refl
is_complete read uses made before after err err_now answer ended clear files source finds = inl (ended.verdict files source finds)
