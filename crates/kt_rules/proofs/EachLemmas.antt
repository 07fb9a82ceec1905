-- Lemmas on steps that see the loss alone.
use Rattle.std.proofs.Common.{◌≡◌, ℕ, zero, suc, true, List, [], ◌∷◌, length, get_or, refl, arith}
use Rattle.std.proofs.lemmas.Bool.{and_parts}
use Rattle.kt_rules.specs.declared.steps.Step.{Step}
use Rattle.kt_rules.specs.declared.steps.Step.TheVariants as step
use Rattle.kt_rules.specs.Amounts.{deduct, shared}
use Rattle.kt_rules.specs.Each.{IsEach, are_alone, is_alone}
use Rattle.kt_rules.specs.LossAlone.{untouched}

-- of such steps each is one
pub alone_at : (steps : List Step) (k : ℕ) → are_alone steps ≡ true → is_alone (get_or steps k step.Nothing) ≡ true
alone_at [] k alone = refl
alone_at (first ∷ steps) zero alone = (and_parts (is_alone first) (are_alone steps) alone).0
alone_at (first ∷ steps) (suc k) alone = alone_at steps k (and_parts (is_alone first) (are_alone steps) alone).1

-- four steps, each by its place
pub four : (steps : List Step) → length steps ≡ 4 → steps ≡ get_or steps 0 step.Nothing ∷ get_or steps 1 step.Nothing ∷ get_or steps 2 step.Nothing ∷ get_or steps 3 step.Nothing ∷ []
four [] long = absurd (omega arith)
four (a ∷ []) long = absurd (omega arith)
four (a ∷ b ∷ []) long = absurd (omega arith)
four (a ∷ b ∷ c ∷ []) long = absurd (omega arith)
four (a ∷ b ∷ c ∷ d ∷ []) long = refl
four (a ∷ b ∷ c ∷ d ∷ e ∷ steps) long = absurd (omega arith)

-- a deductible of 0 leaves each loss as it is
pub nothing_deducted : (losses : List ℕ) → IsEach (λ loss. (deduct 0 (untouched loss)).loss) losses losses
nothing_deducted losses = record { wide = refl; each = λ k below. omega arith }

-- and so does a share of the whole
pub whole_shared : (losses : List ℕ) → IsEach (λ loss. (shared 1000000 (untouched loss)).loss) losses losses
whole_shared losses = record { wide = refl; each = λ k below. omega arith }
