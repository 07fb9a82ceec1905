use Rattle.std.proofs.Common.{ℕ, List, ◌+◌, length, slice_index_or, arith, ap, ◌∙◌, sym, subst}
use Rattle.std.proofs.lemmas.Grind.{common_steps}
use Rattle.kt_gul.specs.declared.struck.StruckItem.{StruckItem}
use Rattle.kt_gul.specs.Coverage.{IsRow}
use Rattle.kt_gul.specs.GroundUp.{raw_loss}
use Rattle.kt_gul.proofs.FrontLemmas.{put_behind, where_refused}
use Rattle.kt_gul.proofs.CoverageLemmas.{rest_long, rest_more, row_front, plain_pairs_are, pieces_more}
use Rattle.kt_gul.proofs.coverage.push_plain.Goals as goal

pub split_at-requires : goal.split_at-requires
split_at-requires g c =
    let none : StruckItem = record { item = record { item_id = 0; coverage_id = 0; areaperil_id = 0; vulnerability_id = 0; group_id = 0 }; cdf = 0; moments = record { mean = 0; deviation = 0 } } in
    rest_long c.args.portfolio.now.rows c.args.draw.event c.args.cdfs.now c.args.group.now (c.args.draw.samples + 2) c.loop-struck.struck-index none _ c.loop-struck.invariant.rest_are c.loop-struck-test.true

pub put-requires-clause-row : goal.put-requires-clause-row
put-requires-clause-row g c =
    let none : StruckItem = record { item = record { item_id = 0; coverage_id = 0; areaperil_id = 0; vulnerability_id = 0; group_id = 0 }; cdf = 0; moments = record { mean = 0; deviation = 0 } } in
    let row = row_front c.args.portfolio.now.rows c.args.draw.event c.args.cdfs.now c.args.group.now (c.args.draw.samples + 2) c.loop-struck.struck-index none _ c.loop-struck.invariant.rest_are c.loop-struck-test.true in
    ap length c.split_at.ensures.front ∙ row.width_is

pub loop-struck-preserved : goal.loop-struck-preserved
loop-struck-preserved g c =
    let none : StruckItem = record { item = record { item_id = 0; coverage_id = 0; areaperil_id = 0; vulnerability_id = 0; group_id = 0 }; cdf = 0; moments = record { mean = 0; deviation = 0 } } in
    let rows = c.args.portfolio.now.rows in
    let group = c.args.group.now in
    let i = c.loop-struck.struck-index in
    let below = c.loop-struck-test.true in
    let here = c.loop-struck.invariant in
    let row = row_front rows c.args.draw.event c.args.cdfs.now group (c.args.draw.samples + 2) i none _ here.rest_are below in
    let row_are = subst (λ (row : List ℕ). IsRow (raw_loss rows c.args.draw.event c.args.cdfs.now (slice_index_or group i none).item) (c.args.draw.samples + 2) row) (sym c.split_at.ensures.front) row in
    let pairs = plain_pairs_are rows c.args.draw.event c.args.cdfs.now group c.args.draw.cut c.args.coverage c.args.draw.samples i none c.split_at.result.0.now c.requires.group below c.requires.plain row_are in
    record {
      rest_are = rest_more rows c.args.draw.event c.args.cdfs.now group (c.args.draw.samples + 2) i none _ _ here.rest_are below c.split_at.ensures.back;
      takes = c.in_ok-put.ensures.takes;
      pieces_are = pieces_more rows c.args.draw.event c.args.cdfs.now group g.E.Exit.spelled c.args.draw.cut c.args.draw.samples i none _ (g.E.Exit.pieces c.args.exit.now) (g.E.Exit.pieces c.loop-struck.exit) _ below pairs here.pieces_are c.in_ok-put.ensures.ok;
    }

pub loop-struck-init : goal.loop-struck-init
loop-struck-init g c = record { rest_are = grind (arith, common_steps); pieces_are = grind (arith, common_steps); takes = c.requires.takes }

pub returns-clause-takes : goal.returns-clause-takes
returns-clause-takes g c = c.loop-struck.invariant.takes

pub returns-clause-ok : goal.returns-clause-ok
returns-clause-ok g c = grind (arith, common_steps)

pub returns-in_err-put-clause-front : goal.returns-in_err-put-clause-front
returns-in_err-put-clause-front g c =
    where_refused c.from_residual.result (put_behind (g.E.Exit.pieces c.args.exit.now) _ (g.E.Exit.pieces c.loop-struck.exit) (g.E.Exit.pieces c.put.new.self) c.loop-struck.invariant.pieces_are c.in_err-put.ensures.front)
