use Rattle.std.proofs.Common.{◌≡◌, ℕ, List, ◌<◌, ◌+◌, length, take, slice_index, slice_index_or, arith, ap, ◌∙◌, sym, subst}
use Rattle.std.proofs.lemmas.Grind.{common_steps}
use Rattle.kt_gul.specs.declared.struck.StruckItem.{StruckItem}
use Rattle.kt_gul.specs.Coverage.{IsRow}
use Rattle.kt_gul.specs.GroundUp.{final_loss, raw_loss}
use Rattle.kt_gul.proofs.FrontLemmas.{put_behind, where_refused}
use Rattle.kt_gul.proofs.CoverageLemmas.{rest_long, row_front, total_within, pushed_more, cut_pairs_are, pieces_more}
use Rattle.kt_gul.proofs.coverage.push_cut.Goals as goal

pub split_at-requires : goal.split_at-requires
split_at-requires g c =
    let none : StruckItem = record { item = record { item_id = 0; coverage_id = 0; areaperil_id = 0; vulnerability_id = 0; group_id = 0 }; cdf = 0; moments = record { mean = 0; deviation = 0 } } in
    rest_long c.args.portfolio.now.rows c.args.draw.event c.args.cdfs.now c.args.group.now (c.args.draw.samples + 2) c.loop-struck.struck-index none _ c.loop-struck.invariant.pushed.rest_are c.loop-struck-test.true

pub cut_row-requires-clause-within : goal.cut_row-requires-clause-within
cut_row-requires-clause-within g c = λ place below.
    let none : StruckItem = record { item = record { item_id = 0; coverage_id = 0; areaperil_id = 0; vulnerability_id = 0; group_id = 0 }; cdf = 0; moments = record { mean = 0; deviation = 0 } } in
    let here = c.loop-struck.invariant.pushed in
    let inside : place < c.args.draw.samples + 2 = omega (arith, c.loop-struck.invariant.width) in
    let row = row_front c.args.portfolio.now.rows c.args.draw.event c.args.cdfs.now c.args.group.now (c.args.draw.samples + 2) c.loop-struck.struck-index none _ here.rest_are c.loop-struck-test.true in
    let front : slice_index c.split_at.result.0.now place ≡ slice_index (take (c.args.draw.samples + 2) c.loop-struck.rest.now) place = ap (λ (row : List ℕ). slice_index row place) c.split_at.ensures.front in
    omega (
      arith,
      front,
      row.each place inside,
      here.before_are.each place inside,
      c.requires.totals.each place inside,
      total_within c.args.portfolio.now.rows c.args.draw.event c.args.cdfs.now c.args.group.now place c.loop-struck.struck-index none c.loop-struck-test.true,
    )

pub add_to-requires-clause-width : goal.add_to-requires-clause-width
add_to-requires-clause-width g c =
    let none : StruckItem = record { item = record { item_id = 0; coverage_id = 0; areaperil_id = 0; vulnerability_id = 0; group_id = 0 }; cdf = 0; moments = record { mean = 0; deviation = 0 } } in
    let here = c.loop-struck.invariant.pushed in
    let row = row_front c.args.portfolio.now.rows c.args.draw.event c.args.cdfs.now c.args.group.now (c.args.draw.samples + 2) c.loop-struck.struck-index none _ here.rest_are c.loop-struck-test.true in
    ap length c.split_at.ensures.front ∙ (row.width_is ∙ sym here.before_are.width_is)

pub add_to-requires-clause-fits : goal.add_to-requires-clause-fits
add_to-requires-clause-fits g c = λ place below.
    let none : StruckItem = record { item = record { item_id = 0; coverage_id = 0; areaperil_id = 0; vulnerability_id = 0; group_id = 0 }; cdf = 0; moments = record { mean = 0; deviation = 0 } } in
    let here = c.loop-struck.invariant.pushed in
    let inside : place < c.args.draw.samples + 2 = omega (arith, here.before_are.width_is) in
    let row = row_front c.args.portfolio.now.rows c.args.draw.event c.args.cdfs.now c.args.group.now (c.args.draw.samples + 2) c.loop-struck.struck-index none _ here.rest_are c.loop-struck-test.true in
    let front : slice_index c.split_at.result.0.now place ≡ slice_index (take (c.args.draw.samples + 2) c.loop-struck.rest.now) place = ap (λ (row : List ℕ). slice_index row place) c.split_at.ensures.front in
    omega (
      arith,
      front,
      row.each place inside,
      here.before_are.each place inside,
      c.requires.most place inside,
      total_within c.args.portfolio.now.rows c.args.draw.event c.args.cdfs.now c.args.group.now place c.loop-struck.struck-index none c.loop-struck-test.true,
    )

pub loop-struck-preserved : goal.loop-struck-preserved
loop-struck-preserved g c =
    let none : StruckItem = record { item = record { item_id = 0; coverage_id = 0; areaperil_id = 0; vulnerability_id = 0; group_id = 0 }; cdf = 0; moments = record { mean = 0; deviation = 0 } } in
    let rows = c.args.portfolio.now.rows in
    let group = c.args.group.now in
    let i = c.loop-struck.struck-index in
    let below = c.loop-struck-test.true in
    let here = c.loop-struck.invariant.pushed in
    let row = row_front rows c.args.draw.event c.args.cdfs.now group (c.args.draw.samples + 2) i none _ here.rest_are below in
    let row_are = subst (λ (row : List ℕ). IsRow (raw_loss rows c.args.draw.event c.args.cdfs.now (slice_index_or group i none).item) (c.args.draw.samples + 2) row) (sym c.split_at.ensures.front) row in
    let sums = subst (λ (row : List ℕ). IsRow (λ place. slice_index c.loop-struck.before place + slice_index row place) (length c.loop-struck.before) c.add_to.new.sums) c.split_at.ensures.front c.add_to.ensures.value in
    let made = subst (λ (width : ℕ). IsRow (λ place. final_loss c.args.draw.cut c.args.tiv (slice_index c.args.totals.now place) (slice_index c.loop-struck.before place) (slice_index c.split_at.result.0.now place) place) width c.cut_row.new.row) c.loop-struck.invariant.width c.cut_row.ensures.value in
    let pairs = cut_pairs_are rows c.args.draw.event c.args.cdfs.now group c.args.draw.cut c.args.coverage c.args.draw.samples i none c.args.tiv c.args.totals.now c.loop-struck.before c.split_at.result.0.now c.cut_row.new.row c.requires.group below c.requires.value c.requires.totals here.before_are row_are made in
    record {
      pushed = pushed_more rows c.args.draw.event c.args.cdfs.now group (c.args.draw.samples + 2) i none _ _ _ _ here below c.split_at.ensures.back sums;
      width = made.width_is;
      takes = c.in_ok-put.ensures.takes;
      pieces_are = pieces_more rows c.args.draw.event c.args.cdfs.now group g.E.Exit.spelled c.args.draw.cut c.args.draw.samples i none _ (g.E.Exit.pieces c.args.exit.now) (g.E.Exit.pieces c.loop-struck.exit) _ below pairs c.loop-struck.invariant.pieces_are c.in_ok-put.ensures.ok;
    }

pub loop-struck-init : goal.loop-struck-init
loop-struck-init g c = record { pushed = grind (arith, common_steps); width = grind (arith, common_steps); pieces_are = grind (arith, common_steps); takes = c.requires.takes }

pub returns-clause-takes : goal.returns-clause-takes
returns-clause-takes g c = c.loop-struck.invariant.takes

pub returns-clause-ok : goal.returns-clause-ok
returns-clause-ok g c = grind (arith, common_steps)

pub cut_row-requires-clause-losses : goal.cut_row-requires-clause-losses
cut_row-requires-clause-losses g c = grind (arith, common_steps)

pub returns-in_err-put-clause-front : goal.returns-in_err-put-clause-front
returns-in_err-put-clause-front g c =
    where_refused c.from_residual.result (put_behind (g.E.Exit.pieces c.args.exit.now) _ (g.E.Exit.pieces c.loop-struck.exit) (g.E.Exit.pieces c.put.new.self) c.loop-struck.invariant.pieces_are c.in_err-put.ensures.front)
