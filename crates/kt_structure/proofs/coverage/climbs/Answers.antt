use Rattle.std.proofs.Common.{◌≡◌, ◌∙◌, ◌+◌, ◌-◌, ◌++◌, ap, arith}
use Rattle.std.specs.List.{filter_map, list_any}
use Rattle.kt_keys.specs.UnitTable.{value_of}
use Rattle.kt_structure.specs.Coverages.{row_up}
use Rattle.kt_structure.proofs.LevelLemmas.{level_rows, levels-end, levels-go, levels-are}
use Rattle.kt_structure.proofs.coverage.climbs.Goals as goal

pub loop-below-init : goal.loop-below-init
loop-below-init c =
    let next = value_of c.args.next.now in
    let all : c.args.top - 0 ≡ c.args.top = omega arith in
    (λ i. c.in_ok-rows.ensures.items i ++ level_rows next (all i) 1 (c.in_ok-here.ensures.value i))

pub loop-below-preserved : goal.loop-below-preserved
loop-below-preserved c =
    let next = value_of c.args.next.now in
    let below = c.loop-below.below in
    let less : c.args.top - (below + 1) ≡ c.args.top - below - 1 = omega arith in
    ap (λ n. c.extend_from_slice.new.self.items ++ level_rows next n (below + 1 + 1) c.in_ok-higher.higher.items) less
    ∙ levels-go next (c.args.top - below) (below + 1) c.loop-below.rows.items c.loop-below.here.items c.in_ok-higher.higher.items c.extend_from_slice.new.self.items _ (omega arith) c.loop-below.invariant
    (c.in_ok-higher.ensures.value ∙ ap (filter_map (row_up next (below + 1))) c.deref.ensures.value)
    (c.in_ok-extend_from_slice.ensures.items ∙ ap (λ back. c.loop-below.rows.items ++ back) c.deref-in-loop-below.ensures.value)

pub returns : goal.returns
returns c =
    let next = value_of c.args.next.now in
    let below = c.loop-below.below in
    let none : c.args.top - below ≡ 0 = omega arith in
    record {
      value = λ test. ap (list_any test) (levels-end next (c.args.top - below) (below + 1) c.loop-below.rows.items c.loop-below.here.items _ none c.loop-below.invariant) ∙ levels-are next test c.args.top c.args.covered.now;
    }
