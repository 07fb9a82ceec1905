use Rattle.std.proofs.Common.{◌≡◌, ◌∙◌, ◌-◌, ◌<◌, suc, List, length, ap, sym, subst, arith, slice_index_or, []}
use Rattle.std.proofs.lemmas.Result.{IfOk-weaker}
use Rattle.std.specs.List.{All, AllByRecursion}
use Rattle.kt_rules.specs.declared.carry.Carry.{Carry}
use Rattle.kt_fmtree.specs.Carried.{CanCarry}
use Rattle.kt_fmtree.specs.declared.node.Node.{Node}
use Rattle.kt_fmtree.specs.Placed.{level_down}
use Rattle.kt_fmtree.specs.declared.part.PlacedPart.{PlacedPart}
use Rattle.kt_fmtree.specs.DownLaws.{row-can, nodes-places, can-next, levels-next}
use Rattle.kt_fmtree.proofs.down.+levels_down.Goals as goal

pub level_down-requires-clause-can : goal.level_down-requires-clause-can
level_down-requires-clause-can t c =
    let within = c.requires.can.within in
    let under : c.args.level - 1 < length c.args.programme.now.levels = omega arith in
    subst (λ (row : List Carry). All (CanCarry row) c.nodes_above.result.now) (sym c.row.ensures.value)
    (subst (λ (nodes : List Node). All (CanCarry (slice_index_or c.args.levels.now.rows (c.args.level - 1) [])) nodes) (sym c.nodes_above.ensures.value) (row-can _ _ c.requires.levels (c.args.level - 1) under))

pub level_down-requires-clause-places : goal.level_down-requires-clause-places
level_down-requires-clause-places t c =
    let next : c.args.level ≡ suc (c.args.level - 1) = omega arith in
    subst (λ (parts : List PlacedPart). AllByRecursion (λ part. part.place < length c.nodes_above.result.now) parts) (sym c.deref.ensures.value)
    (subst (λ (nodes : List Node). AllByRecursion (λ part. part.place < length nodes) c.args.parts.items) (sym c.nodes_above.ensures.value) (nodes-places c.args.programme.now c.args.whole c.args.level (c.args.level - 1) next c.args.parts.items c.requires.can))

pub levels_down-requires : goal.levels_down-requires
levels_down-requires t c =
    let next : c.args.level ≡ suc (c.args.level - 1) = omega arith in
    let given = c.in_ok-given.ensures.value ∙ (ap (λ (nodes : List Node). level_down c.args.whole nodes c.row.result.now c.deref.result.now) c.nodes_above.ensures.value ∙ (ap (λ (row : List Carry). level_down c.args.whole (slice_index_or c.args.programme.now.levels (c.args.level - 1) []) row c.deref.result.now) c.row.ensures.value ∙ ap (level_down c.args.whole (slice_index_or c.args.programme.now.levels (c.args.level - 1) []) (slice_index_or c.args.levels.now.rows (c.args.level - 1) [])) c.deref.ensures.value)) in
    (omega (arith, c.decreases), (c.requires.levels, can-next c.args.programme.now c.args.levels.now c.requires.levels c.args.whole c.args.level (c.args.level - 1) next c.args.parts.items c.in_ok-given.given.items c.requires.can given))

pub returns : goal.returns
returns t c =
    let next : c.args.level ≡ suc (c.args.level - 1) = omega arith in
    let given = c.in_ok-given.ensures.value ∙ (ap (λ (nodes : List Node). level_down c.args.whole nodes c.row.result.now c.deref.result.now) c.nodes_above.ensures.value ∙ (ap (λ (row : List Carry). level_down c.args.whole (slice_index_or c.args.programme.now.levels (c.args.level - 1) []) row c.deref.result.now) c.row.ensures.value ∙ ap (level_down c.args.whole (slice_index_or c.args.programme.now.levels (c.args.level - 1) []) (slice_index_or c.args.levels.now.rows (c.args.level - 1) [])) c.deref.ensures.value)) in
    record { value = IfOk-weaker c.levels_down.result _ _ (λ last known. levels-next c.args.whole c.args.programme.now.levels c.args.levels.now.rows c.args.level (c.args.level - 1) next c.args.parts.items c.in_ok-given.given.items _ given known) c.levels_down.ensures.value }
