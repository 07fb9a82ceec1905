use Rattle.std.proofs.Common.{◌≤◌, ◌∙◌, ◌*◌, length, take, ap, arith}
use Rattle.std.proofs.lemmas.List.{length-take-le}
use Rattle.kt_lanes.specs.SideBySide.{cut}
use Rattle.kt_lanes.proofs.CutLemmas.{cut-count, cut-take, few-fit}
use Rattle.kt_lanes.proofs.lanes.Lanes.truncate.Goals as goal

pub overflow_mul-self-inside : goal.overflow_mul-self-inside
overflow_mul-self-inside c =
    let kept = c.self.inside in
    record { fits = omega (arith, kept.amounts.ok, few-fit kept.width kept.count kept.amounts.items c.self.invariant c.args.self.now c.self.view_is c.args.count c.requires.within) }

pub invariant_of-self : goal.invariant_of-self
invariant_of-self c =
    let kept = c.self.inside in
    ap length c.truncate.ensures.items ∙ length-take-le (kept.width * c.args.count) kept.amounts.items (few-fit kept.width kept.count kept.amounts.items c.self.invariant c.args.self.now c.self.view_is c.args.count c.requires.within)

pub returns : goal.returns
returns c =
    let kept = c.self.inside in
    let within : c.args.count ≤ kept.count = omega (arith, c.requires.within, ap length c.self.view_is, cut-count kept.width kept.count kept.amounts.items) in
    record {
      value = ap (cut kept.width c.args.count) c.truncate.ensures.items ∙ (cut-take kept.width kept.count c.args.count kept.amounts.items within ∙ ap (take c.args.count) c.self.view_is);
    }
