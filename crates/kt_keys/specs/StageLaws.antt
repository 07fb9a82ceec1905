-- The first refusal over the base and the stages, one stage after the other, and over a list of tables.
-- The rule: docs/CHECKS.md, "Order".
use Rattle.std.proofs.Common.{◌≡◌, ℕ, ◌+◌, ◌<◌, List, ◌∷◌, length, drop, drop-cons, map, refl, ap, sym, ◌∙◌, Option, None, add-one}
use Rattle.std.specs.Prelude.{slice_index_or}
use Rattle.std.specs.List.{fold}
use Rattle.std.specs.Option.{option_or}
use Rattle.kt_keys.specs.declared.need.Refusal.{Refusal}
use Rattle.kt_keys.specs.Refusals.{over_stages}

-- over no stage nothing is refused
pub stages-none : (check : ℕ → Option Refusal) → None ≡ over_stages check 0
unfolding over_stages
stages-none check = refl

-- one more stage
pub stages-step : (check : ℕ → Option Refusal) (stages : ℕ) (found next : Option Refusal) → found ≡ over_stages check stages → next ≡ check stages → option_or found next ≡ over_stages check (stages + 1)
unfolding over_stages
stages-step check stages found next was is = rw (add-one stages) (ap (λ o. option_or o next) was ∙ ap (λ o. option_or (over_stages check stages) o) is)

-- one more of a list, where what was found with those that are left is the first of all
pub listed-step : {A : Type 0} (check : A → Option Refusal) (list : List A) (at : ℕ) (d : A) (found next first : Option Refusal) → at < length list → next ≡ option_or found (check (slice_index_or list at d)) → fold option_or found (map check (drop at list)) ≡ first → fold option_or next (map check (drop (at + 1) list)) ≡ first
listed-step check list at d found next first below is before =
    let step : drop at list ≡ slice_index_or list at d ∷ drop (at + 1) list = rw add-one (drop-cons list at d below) in
    ap (λ (one : Option Refusal). fold option_or one (map check (drop (at + 1) list))) is ∙ (sym (ap (λ left. fold option_or found (map check left)) step) ∙ before)
