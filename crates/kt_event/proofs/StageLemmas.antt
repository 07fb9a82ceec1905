-- The structures of stages, one more at a time.
use Rattle.std.proofs.Common.{◌≡◌, ℕ, zero, suc, ◌+◌, true, List, [], ◌∷◌, ◌++◌, map, subst, arith}
use Rattle.std.specs.List.{AllByRecursion, range_with_len}
use Rattle.kt_event.specs.Losses.{stage_trees}
use Rattle.kt_event.specs.Plan.{kept_stages}
use Rattle.kt_block.specs.Terms.{has_net}
use Rattle.kt_rec.specs.Rows.{Rows}
use Rattle.kt_rec.specs.declared.perspective.Perspective.{Perspective}
use Rattle.kt_rec.specs.declared.perspective.Perspective.TheVariants.{Gul, Il, Ri}
use Rattle.kt_ri.specs.Stages.{AreStages, HasStage, IsStage}
use Rattle.kt_structure.specs.declared.structure.Structure.{Structure}
use Rattle.kt_fmtree.specs.Tree.{Tree}

-- a stage more behind those from a number on
stage_behind : (tree : ℕ → Tree) (first many : ℕ) (stages : List Structure) (stage : Structure) → AreStages (map tree (range_with_len first many)) stages → IsStage (tree (first + many)) stage → AreStages (map tree (range_with_len first (suc many))) (stages ++ stage ∷ [])
stage_behind tree first zero [] stage are is = let same : first + 0 ≡ first = omega arith in (subst (λ (n : ℕ). IsStage (tree n) stage) same is, tt)
stage_behind tree first zero (one ∷ stages) stage are is = absurd are
stage_behind tree first (suc many) [] stage are is = absurd are
stage_behind tree first (suc many) (one ∷ stages) stage are is = let same : first + suc many ≡ first + 1 + many = omega arith in (are.0, stage_behind tree (first + 1) many stages stage are.1 (subst (λ (n : ℕ). IsStage (tree n) stage) same is))

pub stage_more : (tree : ℕ → Tree) (many : ℕ) (stages : List Structure) (stage : Structure) → AreStages (map tree (range_with_len 1 many)) stages → IsStage (tree (many + 1)) stage → AreStages (map tree (range_with_len 1 (many + 1))) (stages ++ stage ∷ [])
stage_more tree many stages stage are is =
    let next : many + 1 ≡ 1 + many = omega arith in
    let one : suc many ≡ many + 1 = omega arith in
    subst (λ (n : ℕ). AreStages (map tree (range_with_len 1 n)) (stages ++ stage ∷ [])) one (stage_behind tree 1 many stages stage are (subst (λ (n : ℕ). IsStage (tree n) stage) next is))

-- stages of trees can be taken one after the other
pub have_stages : (trees : List Tree) (stages : List Structure) → AreStages trees stages → AllByRecursion HasStage stages
have_stages [] [] are = tt
have_stages [] (stage ∷ later) are = absurd are
have_stages (tree ∷ trees) [] are = tt
have_stages (tree ∷ trees) (stage ∷ later) are = (record { tree = tree; is = are.0 }, have_stages trees later are.1)

-- the stages of net losses
pub net_stages : (rows : Rows) (last : Perspective) (stages : ℕ) (structures : List Structure) → has_net last ≡ true → AreStages (stage_trees rows (kept_stages last stages)) structures → AreStages (stage_trees rows stages) structures
net_stages rows Gul stages structures net are = cc
net_stages rows Il stages structures net are = cc
net_stages rows Ri stages structures net are = are
