use Rattle.std.proofs.Common.{◌≡◌, ◌+◌, arith, ℕ, ◌&&◌, ◌||◌, not, nat_eq, ap, sym, ◌∙◌}
use Rattle.std.specs.HashSet.{contains}
use Rattle.kt_keys.specs.Keys.{same_pair}
use Rattle.kt_checks.specs.OutputChecks.{has_owner, some_layer, has_layer}
use Rattle.kt_checks.proofs.OutputLemmas.{layers-end, layers-none, layers-step}
use Rattle.kt_checks.proofs.outputs.lacks_output.Goals as goal
use Rattle.kt_checks.proofs.outputs.lacks_output.Goals.{then-lacks, else-lacks}

pub loop-below-init : goal.loop-below-init
loop-below-init c = layers-none (λ layer. has_layer (contains nat_eq c.args.lookups.now.with_terms) (contains same_pair c.args.lookups.now.layers) c.args.unit layer && not (has_owner c.args.lookups.now.outputs (c.args.owner, layer)))

pub loop-below-preserved : goal.loop-below-preserved
loop-below-preserved c =
    let test = (λ (layer : ℕ). has_layer (contains nat_eq c.args.lookups.now.with_terms) (contains same_pair c.args.lookups.now.layers) c.args.unit layer && not (has_owner c.args.lookups.now.outputs (c.args.owner, layer))) in
    let here = c.lacks_layer-here.result in
    let next : (c.loop-below.lacks || here) ≡ some_layer test (c.loop-below.below + 1) = layers-step test c.loop-below.below c.loop-below.lacks here c.loop-below.invariant c.lacks_layer-here.ensures.value in
    elim c.if-lacks.branch [
      | then-lacks w ↦ w.lacks-is ∙ (w.if-lacks.true ∙ (sym (ap (λ b. b || here) w.if-lacks.true) ∙ next))
      | else-lacks w ↦ w.lacks-is ∙ (sym (ap (λ b. b || here) w.if-lacks.false) ∙ next)
    ]

pub returns : goal.returns
returns c =
    let lookups = c.args.lookups.now in
    let test = (λ (layer : ℕ). has_layer (contains nat_eq lookups.with_terms) (contains same_pair lookups.layers) c.args.unit layer && not (has_owner lookups.outputs (c.args.owner, layer))) in
    let all : c.loop-below.below ≡ lookups.last = omega arith in
    record { value = c.loop-below.invariant ∙ (ap (some_layer test) all ∙ layers-end (contains nat_eq lookups.with_terms) (contains same_pair lookups.layers) (has_owner lookups.outputs) lookups.last c.requires c.args.unit c.args.owner) }
