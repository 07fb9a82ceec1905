-- Records that are made of some things, at most one of each: what holds of them, and that their keys rise where those of the
-- things do.
-- The rule: docs/STREAMS.md, "Runs".
use Rattle.std.specs.Prelude.{◌≡◌, ℕ, zero, suc, ◌+◌, ◌<◌, List, [], ◌∷◌, map, Option, None, Some, slice_index}
use Rattle.std.specs.List.{AllByRecursion, cons_option, filter_map}
use Rattle.std.specs.List.Sorted.{IsStrictlyIncreasing}
use Rattle.std.proofs.Common.{refl, sym, subst, arith}

-- each key is below those of all that stand behind it
abbrev pub Climbs : {E : Type 0} → (E → ℕ) → List E → Type 0
Climbs key [] = Unit {0}
Climbs key (entry ∷ later) = AllByRecursion (λ other. key entry < key other) later × Climbs key later

-- so each key is below the next
pub increasing : {E : Type 0} (key : E → ℕ) (entries : List E) → Climbs key entries → IsStrictlyIncreasing (map key entries)
increasing key [] climbs k inside = absurd (omega arith)
increasing key (x ∷ []) climbs k inside = absurd (omega arith)
increasing key (x ∷ y ∷ later) climbs zero inside = climbs.0.0
increasing key (x ∷ y ∷ later) climbs (suc k) inside =
    subst (λ n. slice_index (map key (y ∷ later)) k < slice_index (map key (x ∷ y ∷ later)) n) {x = suc (k + 1)} {y = suc k + 1} (omega arith) (increasing key (y ∷ later) climbs.1 k (omega arith))

module _ {A E : Type 0} (made : A → Option E) where
  -- what holds of each that is made
  pub made_all : (P : E → Type 0) → ((one : A) (entry : E) → made one ≡ Some entry → P entry) → (things : List A) → AllByRecursion P (filter_map made things)
  made_all P holds [] = tt
  made_all P holds (one ∷ things) = by (made one) refl (made_all P holds things)
    where
      by : (option : Option E) → made one ≡ option → AllByRecursion P (filter_map made things) → AllByRecursion P (cons_option option (filter_map made things))
      by None is rest = rest
      by (Some entry) is rest = (holds one entry is, rest)

  module _ (least : A → ℕ) (key : E → ℕ) (same : (one : A) (entry : E) → made one ≡ Some entry → key entry ≡ least one) where
    -- what is made of things above a number is above it
    made_above : (low : ℕ) (things : List A) → AllByRecursion (λ other. low < least other) things → AllByRecursion (λ entry. low < key entry) (filter_map made things)
    made_above low [] above = tt
    made_above low (one ∷ things) above = by (made one) refl (made_above low things above.1)
      where
        by : (option : Option E) → made one ≡ option → AllByRecursion (λ entry. low < key entry) (filter_map made things) → AllByRecursion (λ entry. low < key entry) (cons_option option (filter_map made things))
        by None is rest = rest
        by (Some entry) is rest = (subst (λ n. low < n) (sym (same one entry is)) above.0, rest)

    -- what is made of things whose keys rise has rising keys
    pub made_climbs : (things : List A) → Climbs least things → Climbs key (filter_map made things)
    made_climbs [] climbs = tt
    made_climbs (one ∷ things) climbs = by (made one) refl (made_climbs things climbs.1)
      where
        by : (option : Option E) → made one ≡ option → Climbs key (filter_map made things) → Climbs key (cons_option option (filter_map made things))
        by None is rest = rest
        by (Some entry) is rest = (subst (λ n. AllByRecursion (λ other. n < key other) (filter_map made things)) (sym (same one entry is)) (made_above (least one) things climbs.0), rest)
