use Rattle.std.proofs.Common.{◌≡◌, ℕ, List, ◌<◌, ◌+◌, ◌++◌, length, drop, ap, ◌∙◌, sym, arith}
use Rattle.std.proofs.lemmas.Grind.{common_steps}
use Rattle.std.proofs.lemmas.List.{drop_at, length-take-le}
use Rattle.kt_gul.specs.declared.struck.StruckItem.{StruckItem}
use Rattle.kt_gul.proofs.CoverageLemmas.{row_from_map, added_more}
use Rattle.kt_gul.proofs.coverage.group_losses.Goals as goal

-- what stands behind the first losses is what was appended to them
row_behind : (front made longer all row : List ℕ) (done : ℕ) → done ≡ length front → longer ≡ front ++ made → all ≡ longer → row ≡ drop done all → row ≡ made
row_behind front made longer all row done is longer_is all_is row_is = row_is ∙ (ap (drop done) (all_is ∙ longer_is) ∙ drop_at front made done (sym is))

pub add_to-requires-clause-width : goal.add_to-requires-clause-width
add_to-requires-clause-width c =
    let row_is = row_behind c.loop-struck.losses.items _ _ _ _ _ (omega (arith, c.len-done.ensures, c.loop-struck.losses.ok.0)) c.in_ok-losses.ensures.value c.deref.ensures.value c.behind.ensures.value in
    let row = row_from_map _ (c.args.draw.samples + 2) _ row_is in
    row.width_is ∙ sym c.loop-struck.invariant.totals_are.width_is

pub add_to-requires-clause-fits : goal.add_to-requires-clause-fits
add_to-requires-clause-fits c = λ place below.
    let here = c.loop-struck.invariant in
    let row_is = row_behind c.loop-struck.losses.items _ _ _ _ _ (omega (arith, c.len-done.ensures, c.loop-struck.losses.ok.0)) c.in_ok-losses.ensures.value c.deref.ensures.value c.behind.ensures.value in
    let row = row_from_map _ (c.args.draw.samples + 2) _ row_is in
    let inside : place < c.args.draw.samples + 2 = omega (arith, here.totals_are.width_is) in
    omega (arith, c.requires.few, c.loop-struck-test.true, length-take-le c.loop-struck.struck-index c.args.group.now (omega arith), here.within place inside, here.totals_are.each place inside, row.each place inside, c.in_ok-losses.ensures.most place inside)

pub loop-struck-preserved : goal.loop-struck-preserved
loop-struck-preserved c =
    let none : StruckItem = record { item = record { item_id = 0; coverage_id = 0; areaperil_id = 0; vulnerability_id = 0; group_id = 0 }; cdf = 0; moments = record { mean = 0; deviation = 0 } } in
    let losses = c.loop-struck.losses.items in
    let row_is = row_behind losses _ _ _ _ _ (omega (arith, c.len-done.ensures, c.loop-struck.losses.ok.0)) c.in_ok-losses.ensures.value c.deref.ensures.value c.behind.ensures.value in
    added_more c.args.portfolio.now.rows c.args.draw.event c.args.cdfs.now c.args.group.now (c.args.draw.samples + 2) c.loop-struck.struck-index none c.behind.result.now losses _ c.loop-struck.totals _
    c.loop-struck.invariant c.loop-struck-test.true row_is c.in_ok-losses.ensures.most
    (c.in_ok-losses.ensures.value ∙ ap (λ (row : List ℕ). losses ++ row) (sym row_is))
    c.add_to.ensures.value

pub returns : goal.returns
returns c = grind (arith, common_steps)
