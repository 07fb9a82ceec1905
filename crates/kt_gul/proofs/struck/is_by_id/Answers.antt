use Rattle.std.proofs.Common.{◌+◌, ◌≤◌, slice_index_or, subst, sym}
use Rattle.std.proofs.lemmas.List.{get_or_default}
use Rattle.kt_index.specs.RiseLaws.{RisesTo, rises_none, rises_more, rises_all}
use Rattle.kt_gul.specs.StruckItems.{id_of}
use Rattle.kt_gul.specs.declared.struck.StruckItem.{StruckItem}
use Rattle.kt_gul.proofs.struck.is_by_id.Goals as goal

pub loop-one-init : goal.loop-one-init
loop-one-init c = rises_none id_of c.args.struck.now 0

pub loop-one-preserved : goal.loop-one-preserved
loop-one-preserved c =
    let none : StruckItem = record { item = record { item_id = 0; coverage_id = 0; areaperil_id = 0; vulnerability_id = 0; group_id = 0 }; cdf = 0; moments = record { mean = 0; deviation = 0 } } in
    let struck = c.args.struck.now in
    let i = c.loop-one.one-index in
    let is = c.id-id.ensures.value in
    subst (λ n. RisesTo id_of struck (i + 1) n) (sym is)
    (rises_more id_of struck i c.loop-one.last (slice_index_or struck i none) c.loop-one-test.true (get_or_default struck i none (slice_index_or struck i none) c.loop-one-test.true) (subst (λ n. c.loop-one.last ≤ n) is c.if-id-last.false) c.loop-one.invariant)

pub returns : goal.returns
returns c = record { rising = λ _. rises_all id_of c.args.struck.now c.loop-one.one-index c.loop-one.last c.loop-one-test.false c.loop-one.invariant }
