use Rattle.std.proofs.Common.{◌∙◌, ◌++◌, ◌≤◌, List, ap, subst, sym}
use Rattle.std.specs.List.{flat_map}
use Rattle.std.specs.List.Sorted.{IsPermutation}
use Rattle.kt_stream.specs.declared.entry.Cdf.{Cdf}
use Rattle.kt_model.proofs.RecordLemmas.{records_moved, total_moved}
use Rattle.kt_model.proofs.event.put_event.Goals as goal

pub put_struck-requires-2-clause-within : goal.put_struck-requires-2-clause-within
put_struck-requires-2-clause-within g c areaperil =
    let moved = subst (IsPermutation c.args.rows.now) (sym c.as_slice.ensures.value) c.in_ok-foot.ensures.permutation in
    subst (λ n. n ≤ 1001000) (sym (total_moved c.args.rows.now c.as_slice.result.now moved areaperil)) (c.in_ok-check_rows.ensures.within areaperil)

pub returns-clause-value : goal.returns-clause-value
returns-clause-value g c =
    let moved = subst (IsPermutation c.args.rows.now) (sym c.as_slice.ensures.value) c.in_ok-foot.ensures.permutation in
    c.in_ok-put_struck-2.ensures.ok
    ∙ ap (λ (records : List Cdf). g.E.Exit.pieces c.args.exit.now ++ flat_map g.E.Exit.spelled records) (records_moved c.args.rows.now c.as_slice.result.now moved c.args.portfolio.now.rows c.args.event)
