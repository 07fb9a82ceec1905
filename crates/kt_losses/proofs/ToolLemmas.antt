-- What the tools of `fmcalc` stand on: an allocation rule, and the records of a run, which are losses.
use Rattle.std.proofs.Common.{◌≡◌, ◌⊎◌, ◌≤◌, inl, inr, ℕ, zero, suc, List, [], ◌∷◌, map, refl, arith}
use Rattle.std.specs.Prelude.{All}
use Rattle.std.specs.List.{AllByRecursion}
use Rattle.std.proofs.lemmas.List.Elements.{All-from_recursion}
use Rattle.kt_stream.specs.Losses.{IsLoss}
use Rattle.kt_stream.specs.declared.entry.LossRecord.{LossRecord}
use Rattle.kt_stream.specs.declared.entry.Placed.{Placed}

-- the allocation rules of net losses
pub one_or_two : (rule : ℕ) → 1 ≤ rule → rule ≤ 2 → (rule ≡ 1) ⊎ (rule ≡ 2)
one_or_two zero some few = absurd (omega (arith, some))
one_or_two (suc zero) some few = inl refl
one_or_two (suc (suc zero)) some few = inr refl
one_or_two (suc (suc (suc rule))) some few = absurd (omega (arith, few))

each_entry : (samples : ℕ) (run : List (Placed LossRecord)) → AllByRecursion (λ placed. IsLoss samples placed.entry) run → AllByRecursion (IsLoss samples) (map (λ placed. placed.entry) run)
each_entry samples [] good = tt
each_entry samples (placed ∷ run) good = (good.0, each_entry samples run good.1)

-- records with their places, and without them
pub entries_are_losses : (samples : ℕ) (run : List (Placed LossRecord)) → AllByRecursion (λ placed. IsLoss samples placed.entry) run → All (IsLoss samples) (map (λ placed. placed.entry) run)
entries_are_losses samples run good = All-from_recursion (IsLoss samples) (map (λ placed. placed.entry) run) (each_entry samples run good)
