-- Steps of a climb from an item to the top level, and of a loop over layers.
use Rattle.std.proofs.Common.{◌≡◌, ℕ, zero, ◌+◌, ◌-◌, ◌<◌, ◌≤◌, suc, Bool, true, cond, List, [], ◌∷◌, refl, ap, sym, ◌∙◌, Option, add-one, arith}
use Rattle.std.specs.Prelude.{◌||◌, ◌&&◌, false, max, min, nat_eq, not}
use Rattle.std.specs.List.{fold, list_any}
use Rattle.std.proofs.lemmas.Bool.Decides.{nat_tests}
use Rattle.kt_keys.specs.Climbing.{climbed, after}
use Rattle.kt_keys.specs.Keys.{same_pair}
use Rattle.kt_checks.specs.OutputChecks.{EndsAt, has_layer, lacks_output, some_layer}

-- one level further
pub climbed-step : (next : ℕ × ℕ → Option ℕ) (levels below unit : ℕ) → below < levels → climbed next (levels - below) (below + 1) unit ≡ after (next (below + 1, unit)) (climbed next (levels - (below + 1)) (below + 1 + 1))
climbed-step next levels below unit h = let e : levels - below ≡ suc (levels - (below + 1)) = omega arith in rw e refl

-- no layer was seen
pub layers-none : (test : ℕ → Bool) → false ≡ some_layer test 0
unfolding some_layer
layers-none test = refl

-- one more layer
pub layers-step : (test : ℕ → Bool) (last : ℕ) (lacks here : Bool) → lacks ≡ some_layer test last → here ≡ test (last + 1) → (lacks || here) ≡ some_layer test (last + 1)
unfolding some_layer
layers-step test last lacks here was is = (ap (λ b. b || here) was ∙ ap (λ b. some_layer test last || b) is) ∙ ap (some_layer test) (sym (add-one last))

-- layers that fail the test change nothing
layers-above : (test : ℕ → Bool) (last more : ℕ) → ((layer : ℕ) → last < layer → layer ≤ last + more → test layer ≡ false) → some_layer test (last + more) ≡ some_layer test last
unfolding some_layer
layers-above test last zero none = let same : last + zero ≡ last = omega arith in ap (some_layer test) same
layers-above test last (suc more) none =
    let next : last + suc more ≡ suc (last + more) = omega arith in
    ap (some_layer test) next ∙ (ap (λ here. some_layer test (last + more) || here) (none (last + more + 1) (omega arith) (omega arith)) ∙ (or_none (some_layer test (last + more)) ∙ layers-above test last more (λ layer above upto. none layer above (omega (arith, upto)))))
  where
    or_none : (b : Bool) → (b || false) ≡ b
    or_none true = refl
    or_none false = refl

-- so the layers up to the last say what all say
pub layers-end : (has_terms : ℕ → Bool) (is_layer is_output : ℕ × ℕ → Bool) (last : ℕ) → EndsAt is_layer last → (unit owner : ℕ) → some_layer (λ layer. has_layer has_terms is_layer unit layer && not (is_output (owner, layer))) last ≡ lacks_output has_terms is_layer is_output unit owner
layers-end has_terms is_layer is_output last ends unit owner =
    let few = ends.few in
    let whole : 50 ≡ last + (50 - last) = omega (arith, few) in
    let test = (λ (layer : ℕ). has_layer has_terms is_layer unit layer && not (is_output (owner, layer))) in
    sym (ap (some_layer test) whole ∙ layers-above test last (50 - last) (λ layer above upto. by (has_terms unit) layer above (omega (arith, upto, few))))
  where
    by : (b : Bool) (layer : ℕ) → last < layer → layer ≤ 50 → (cond b (is_layer (unit, layer)) (nat_eq layer 1) && not (is_output (owner, layer))) ≡ false
    by true layer above upto = ap (λ here. here && not (is_output (owner, layer))) (ends.none unit layer above upto)
    by false layer above upto = let some = ends.some in let other : nat_eq layer 1 ≡ false = grind (arith, nat_tests) in ap (λ here. here && not (is_output (owner, layer))) other

-- the greatest layer of units with their layers, from 1 on
abbrev pub greatest : ℕ → List (ℕ × ℕ) → ℕ
greatest last layers = fold (λ last pair. max last pair.1) last layers

greatest_grows : (last : ℕ) (layers : List (ℕ × ℕ)) → last ≤ greatest last layers
greatest_grows last [] = omega arith
greatest_grows last (pair ∷ layers) = let grows = greatest_grows (max last pair.1) layers in omega (arith, grows)

-- none stands behind it
none_behind : (last : ℕ) (layers : List (ℕ × ℕ)) (unit layer : ℕ) → greatest last layers < layer → list_any (same_pair (unit, layer)) layers ≡ false
none_behind last [] unit layer less = refl
none_behind last (pair ∷ layers) unit layer less =
    let grows = greatest_grows (max last pair.1) layers in
    let other : same_pair (unit, layer) pair ≡ false = grind (arith, nat_tests) in
    ap (λ here. here || list_any (same_pair (unit, layer)) layers) other ∙ none_behind (max last pair.1) layers unit layer less

pub greatest_ends : (layers : List (ℕ × ℕ)) (last : ℕ) → last ≡ greatest 1 layers → EndsAt (λ pair. list_any (same_pair pair) layers) (min last 50)
greatest_ends layers last is =
    let grows = greatest_grows 1 layers in
    record {
      some = omega (arith, grows, is);
      few = omega arith;
      none = λ unit layer above upto. none_behind 1 layers unit layer (omega (arith, is, above, upto));
    }

-- the last layer by another test that says the same
pub EndsAt-same : (is_layer is_other : ℕ × ℕ → Bool) → ((pair : ℕ × ℕ) → is_layer pair ≡ is_other pair) → (last : ℕ) → EndsAt is_layer last → EndsAt is_other last
EndsAt-same is_layer is_other same last ends = record {
  some = ends.some;
  few = ends.few;
  none = λ unit layer above upto. sym (same (unit, layer)) ∙ ends.none unit layer above upto;
}
