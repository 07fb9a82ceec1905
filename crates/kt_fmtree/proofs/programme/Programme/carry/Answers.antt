use Rattle.std.proofs.Common.{◌∙◌, ap, sym, subst, length, map}
use Rattle.kt_fmtree.specs.Parts.{Parts, parts_of, HasProgramme}
use Rattle.kt_fmtree.specs.Carried.{Carried, climbed_rows, leaf_row, AreCarried, IsCarriedBy, loss_by}
use Rattle.kt_fmtree.specs.ProgrammeLaws.{programme-climbs, programme-carries, programme-carried}
use Rattle.kt_fmtree.proofs.RowLemmas.{climbs-along}
use Rattle.kt_fmtree.proofs.programme.Programme.carry.Goals as goal

pub levels_of-requires-clause-can : goal.levels_of-requires-clause-can
levels_of-requires-clause-can c =
    climbs-along _ _ _ _ _ c.args.losses.now c.deref.ensures.value c.deref-2.ensures.value
    (programme-climbs (parts_of c.self.inside) c.self.invariant c.args.losses.now (c.requires.losses ∙ ap (λ (p : Parts). length p.ids) (sym c.self.view_is)) c.requires.few)

pub returns-clause-value : goal.returns-clause-value
returns-clause-value c = λ tree is.
    let losses = c.args.losses.now in
    let found = c.in_ok-carried.ensures.value ∙ (ap (λ vs. climbed_rows (map (λ nodes. nodes.items) vs) (leaf_row c.deref-2.result.now losses)) c.deref.ensures.value ∙ (ap (λ ls. climbed_rows (map (λ nodes. nodes.items) c.self.inside.levels.items) (leaf_row ls losses)) c.deref-2.ensures.value ∙ ap (λ (p : Parts). climbed_rows p.levels (leaf_row p.leaves losses)) c.self.view_is)) in
    subst (λ (carried : Carried). AreCarried tree (loss_by tree.ids losses) c.args.self.now carried) (sym found) (programme-carries tree c.args.self.now is losses c.requires.losses)

pub returns-clause-carried : goal.returns-clause-carried
returns-clause-carried c =
    let losses = c.args.losses.now in
    let found = c.in_ok-carried.ensures.value ∙ (ap (λ vs. climbed_rows (map (λ nodes. nodes.items) vs) (leaf_row c.deref-2.result.now losses)) c.deref.ensures.value ∙ (ap (λ ls. climbed_rows (map (λ nodes. nodes.items) c.self.inside.levels.items) (leaf_row ls losses)) c.deref-2.ensures.value ∙ ap (λ (p : Parts). climbed_rows p.levels (leaf_row p.leaves losses)) c.self.view_is)) in
    subst (λ (carried : Carried). IsCarriedBy c.args.self.now carried) (sym found) (programme-carried c.args.self.now (subst HasProgramme c.self.view_is c.self.invariant) losses c.requires.losses c.requires.few)
