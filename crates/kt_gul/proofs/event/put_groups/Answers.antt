use Rattle.std.proofs.Common.{List, ◌∙◌, ◌++◌, map, ap, sym, subst, slice_index_or, append-nil, arith}
use Rattle.std.proofs.lemmas.List.{get_or_default, take_all}
use Rattle.std.proofs.lemmas.Result.{IfOk-from_err}
use Rattle.std.specs.List.{filter_map, flat_map}
use Rattle.kt_tables.specs.PortfolioLaws.{items_distinct, items_within}
use Rattle.kt_gul.specs.declared.struck.StruckItem.{StruckItem}
use Rattle.kt_gul.specs.Coverage.{IsGroup}
use Rattle.kt_gul.specs.GroundUp.{item_record}
use Rattle.kt_gul.specs.StruckItems.{item_of}
use Rattle.kt_gul.proofs.FrontLemmas.{nothing_put, put_behind, where_refused}
use Rattle.kt_gul.proofs.GroupLemmas.{group_is, done_more}
use Rattle.kt_gul.proofs.event.put_groups.Goals as goal

pub push_coverage-requires-clause-group : goal.push_coverage-requires-clause-group
push_coverage-requires-clause-group g c =
    let none : StruckItem = record { item = record { item_id = 0; coverage_id = 0; areaperil_id = 0; vulnerability_id = 0; group_id = 0 }; cdf = 0; moments = record { mean = 0; deviation = 0 } } in
    let portfolio = c.args.portfolio.now in
    let struck = c.args.struck.now in
    let coverage = (slice_index_or struck c.loop-start.start none).item.coverage_id in
    subst (λ (group : List StruckItem). IsGroup portfolio.rows c.args.draw.event c.args.cdfs.now coverage group) (sym c.between-group.ensures.value)
    (group_is portfolio.rows c.args.draw.event c.args.cdfs.now struck c.requires.order c.is_valid.ensures.valid.in_range.items (items_distinct portfolio c.is_valid.ensures.valid) (items_within portfolio c.is_valid.ensures.valid)
    c.loop-start.start c.group_end-end.result coverage c.group_end-end.ensures.value c.loop-start.invariant.done.apart)

pub loop-start-preserved : goal.loop-start-preserved
loop-start-preserved g c =
    let none : StruckItem = record { item = record { item_id = 0; coverage_id = 0; areaperil_id = 0; vulnerability_id = 0; group_id = 0 }; cdf = 0; moments = record { mean = 0; deviation = 0 } } in
    let portfolio = c.args.portfolio.now in
    let struck = c.args.struck.now in
    let coverage = (slice_index_or struck c.loop-start.start none).item.coverage_id in
    let pieces = g.E.Exit.pieces c.loop-start.exit in
    record {
      done = done_more portfolio.rows c.args.draw.event c.args.cdfs.now struck c.requires.order c.is_valid.ensures.valid.in_range.items (items_distinct portfolio c.is_valid.ensures.valid) (items_within portfolio c.is_valid.ensures.valid)
          c.loop-start.start c.group_end-end.result coverage c.group_end-end.ensures.value c.loop-start.invariant.done.apart
          g.E.Exit.spelled c.args.draw.samples c.args.draw.cut (g.E.Exit.pieces c.args.exit.now) pieces _ c.loop-start.invariant.done
          (c.in_ok-scratch-2.ensures.ok ∙ ap (λ (group : List StruckItem). pieces ++ flat_map g.E.Exit.spelled (filter_map (item_record portfolio.rows c.args.draw.samples c.args.draw.cut c.args.draw.event c.args.cdfs.now) (map item_of group))) c.between-group.ensures.value);
      takes = c.in_ok-scratch-2.ensures.takes;
      scratch = c.in_ok-scratch-2.ensures.scratch;
    }

pub loop-start-init : goal.loop-start-init
loop-start-init g c = record {
  done = record {
    within = omega arith;
    pieces_are = sym (append-nil (g.E.Exit.pieces c.args.exit.now));
    apart = λ k j d before behind below. absurd (omega arith);
  };
  takes = c.requires.takes;
  scratch = c.in_ok-scratch.ensures.value;
}

pub returns-clause-takes : goal.returns-clause-takes
returns-clause-takes g c = c.loop-start.invariant.takes

pub returns-clause-ok : goal.returns-clause-ok
returns-clause-ok g c =
    let first = g.E.Exit.pieces c.args.exit.now in
    let made = item_record c.args.portfolio.now.rows c.args.draw.samples c.args.draw.cut c.args.draw.event c.args.cdfs.now in
    c.loop-start.invariant.done.pieces_are ∙ ap (λ (struck : List StruckItem). first ++ flat_map g.E.Exit.spelled (filter_map made (map item_of struck))) (take_all c.loop-start.start c.args.struck.now (omega (arith, c.loop-start-test.false)))

pub returns-in_err-scratch-2-clause-front : goal.returns-in_err-scratch-2-clause-front
returns-in_err-scratch-2-clause-front g c =
    where_refused c.from_residual-in_err-scratch-2.result
    (put_behind (g.E.Exit.pieces c.args.exit.now) _ (g.E.Exit.pieces c.loop-start.exit) (g.E.Exit.pieces c.push_coverage.new.exit) c.loop-start.invariant.done.pieces_are c.in_err-scratch-2.ensures.front)

pub group_end-end-requires-clause-first : goal.group_end-end-requires-clause-first
group_end-end-requires-clause-first g c d =
    let none : StruckItem = record { item = record { item_id = 0; coverage_id = 0; areaperil_id = 0; vulnerability_id = 0; group_id = 0 }; cdf = 0; moments = record { mean = 0; deviation = 0 } } in
    ap (λ (struck : StruckItem). struck.item.coverage_id) (get_or_default c.args.struck.now c.loop-start.start d none c.loop-start-test.true)

pub push_coverage-requires-clause-value : goal.push_coverage-requires-clause-value
push_coverage-requires-clause-value g c =
    let none : StruckItem = record { item = record { item_id = 0; coverage_id = 0; areaperil_id = 0; vulnerability_id = 0; group_id = 0 }; cdf = 0; moments = record { mean = 0; deviation = 0 } } in
    let struck = c.requires.order.each c.loop-start.start none c.loop-start-test.true in
    struck.ranges.value

pub loop-start-smaller : goal.loop-start-smaller
loop-start-smaller g c = omega (arith, c.group_end-end.ensures.value.after, c.group_end-end.ensures.value.within)

pub returns-in_err-scratch : goal.returns-in_err-scratch
returns-in_err-scratch g c = record {
  takes = IfOk-from_err c.from_residual.result _ c.from_residual.ensures.0;
  ok = IfOk-from_err c.from_residual.result _ c.from_residual.ensures.0;
  front = where_refused c.from_residual.result (nothing_put (g.E.Exit.pieces c.args.exit.now));
}

pub returns-in_err-scratch-2-clause-takes : goal.returns-in_err-scratch-2-clause-takes
returns-in_err-scratch-2-clause-takes g c = IfOk-from_err c.from_residual-in_err-scratch-2.result _ c.from_residual-in_err-scratch-2.ensures.0

pub returns-in_err-scratch-2-clause-ok : goal.returns-in_err-scratch-2-clause-ok
returns-in_err-scratch-2-clause-ok g c = IfOk-from_err c.from_residual-in_err-scratch-2.result _ c.from_residual-in_err-scratch-2.ensures.0
