-- A failed read hides no refusal: what was read of the source before it is refused for nothing but its end.
-- The rules: docs/REFUSALS.md, "Order".
use Rattle.std.proofs.Common.{subst}
use Rattle.std.proofs.Math.Nat.{lt_irrefl}
use Rattle.std.specs.Prelude.{◌≡◌, ◌<◌, ℕ, List, ◌∷◌, ◌++◌, Some}
use Rattle.kt_out.specs.Reading.{SourceState}
use Rattle.kt_stream.specs.declared.stop.StreamStop.TheVariants as stop
use Rattle.kt_ends.specs.Outcome.{Outcome}
use Rattle.kt_ends.specs.declared.status.Refusal.TheVariants as refusal
use Rattle.kt_ends.specs.declared.status.Status.{Status}
use Rattle.kt_ends.specs.declared.status.Status.TheVariants as status

-- nothing is refused, or the end of a stream alone, which more bytes can mend
abbrev pub IsUnrefused : Status → Type 0
IsUnrefused status.Done = Unit {0}
IsUnrefused (status.Refused (refusal.Stream (stop.Cut byte))) = Unit {0}
IsUnrefused end = ⊥

-- where a read of the source failed, what was read before it is not refused: by what is made of these bytes
abbrev pub HidesNone : (List ℕ → Outcome) → SourceState → SourceState → Status → Type 0
HidesNone made before after status.ReadFault = before.faults < after.faults → (byte : ℕ) (read rest : List ℕ) → before.left ≡ Some ((byte ∷ read) ++ rest) → after.left ≡ Some rest → IsUnrefused (made (byte ∷ read)).status
HidesNone made before after end = Unit {0}

not_below : (before now : ℕ) → now ≡ before → before < now → ⊥
not_below before now same less = lt_irrefl before (subst (λ (n : ℕ). before < n) same less)

-- where no read of the source failed nothing is hidden
pub none_failed : (made : List ℕ → Outcome) (before after : SourceState) (end : Status) → after.faults ≡ before.faults → HidesNone made before after end
none_failed made before after status.ReadFault same = λ rose. absurd (not_below before.faults after.faults same rose)
none_failed made before after status.WriteFault same = tt
none_failed made before after status.NoMemory same = tt
none_failed made before after end same = tt
