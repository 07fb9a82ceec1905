use Rattle.std.proofs.Common.{◌∙◌, ℕ, List, length, map, ap, subst, sym}
use Rattle.kt_runs.specs.LossLanes.{AreInTurn}
use Rattle.kt_runs.specs.declared.heads.LossHead.{LossHead}
use Rattle.kt_runs.proofs.HeadLemmas.{run-lanes, turn-lanes}
use Rattle.kt_runs.proofs.loss_lanes.LossLanesRunLosses.kept_for.Goals as goal

pub returns-then-are_in_turn : goal.returns-then-are_in_turn
returns-then-are_in_turn c =
    let kept = c.self.inside in
    let heads = kept.heads.items in
    let ids_are = ap (map (λ (head : LossHead). head.id)) (sym c.deref.ensures.value) ∙ c.are_ids.ensures.value c.if-are_ids.true in
    let turn = subst (λ (n : ℕ). AreInTurn n c.deref-then-are_ids.result.now) c.len.ensures.value (c.are_in_turn.ensures.value c.if-are_in_turn.true) in
    let own = turn-lanes heads kept.lanes (subst (λ (heads : List LossHead). AreInTurn (length kept.lanes) heads) c.deref-then-are_ids.ensures.value turn) in
    record { value = run-lanes kept c.self.invariant c.args.self.now c.self.view_is c.args.samples c.requires.rows c.args.ids.now c.requires.rising ids_are kept.lanes own }
