use Rattle.std.proofs.Common.{◌∙◌, ℕ, List, replicate, ap, sym, subst, length}
use Rattle.std.proofs.lemmas.List.{length-replicate}
use Rattle.kt_lanes.specs.Lanes.{AreLanes}
use Rattle.kt_lanes.specs.SideBySide.{cut}
use Rattle.kt_lanes.proofs.CutLemmas.{cut-zeros}
use Rattle.kt_lanes.proofs.lanes.Lanes.zeros.Goals as goal

pub invariant_of-result : goal.invariant_of-result
invariant_of-result c = ap length c.in_ok-amounts.ensures.value ∙ (length-replicate c.in_ok-size.size 0 ∙ c.in_ok-size.ensures.value)

pub returns : goal.returns
returns c =
    let all = c.in_ok-amounts.ensures.value ∙ ap (λ n. replicate n 0) c.in_ok-size.ensures.value in
    record {
      value = subst (λ (amounts : List ℕ). AreLanes c.args.width c.args.count (λ k. replicate c.args.count 0) (cut c.args.width c.args.count amounts)) (sym all) (cut-zeros c.args.width c.args.count);
    }
