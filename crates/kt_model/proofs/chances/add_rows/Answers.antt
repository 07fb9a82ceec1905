use Rattle.std.proofs.Common.{List, ◌≡◌, ◌≤◌, subst, sym, get_or, length, nat_eq, arith, ◌∙◌, ◌<◌, ◌+◌, ◌*◌, ap, take}
use Rattle.std.specs.Prelude.{◌&&◌, All}
use Rattle.std.specs.List.{sum, sum_by}
use Rattle.std.proofs.lemmas.List.Elements.{All-filter}
use Rattle.std.proofs.lemmas.List.Sums.{sum_by_more_le, sum_by_more}
use Rattle.kt_rec.specs.declared.hazard.FootRow.{FootRow}
use Rattle.kt_rec.specs.declared.hazard.Vulnerability.{Vulnerability}
use Rattle.kt_tables.specs.Lookups.{damages_at}
use Rattle.kt_model.proofs.AddLemmas.{fits_by, fits_more}
use Rattle.kt_model.specs.Scratch.{chance_at, chance_in}
use Rattle.kt_model.proofs.chances.add_rows.Goals as goal

pub add_damages-requires-clause-bins : goal.add_damages-requires-clause-bins
add_damages-requires-clause-bins c =
    let rows = c.args.portfolio.now.rows in
    let intensity = (get_or c.args.rows.now c.loop-row.row-index record { areaperil = 0; intensity = 0; prob = 0 }).intensity in
    let same : length rows.damage_bin_dict ≡ length c.loop-row.chances = omega arith in
    subst (λ (found : List Vulnerability). All (λ row. (1 ≤ row.damage_bin_id) × (row.damage_bin_id ≤ length c.loop-row.chances)) found) (sym c.damages_near-here.ensures.value)
    (subst (λ n. All (λ (row : Vulnerability). (1 ≤ row.damage_bin_id) × (row.damage_bin_id ≤ n)) (damages_at rows c.args.vulnerability intensity)) same
    (All-filter (λ row. nat_eq row.vulnerability_id c.args.vulnerability && nat_eq row.intensity_bin_id intensity) (λ row. (1 ≤ row.damage_bin_id) × (row.damage_bin_id ≤ length rows.damage_bin_dict)) rows.vulnerability c.requires.kept.bins))

pub add_damages-requires-clause-fits : goal.add_damages-requires-clause-fits
add_damages-requires-clause-fits c =
    let none : FootRow = record { areaperil = 0; intensity = 0; prob = 0 } in
    let row = get_or c.args.rows.now c.loop-row.row-index none in
    let next = sum_by_more_le (λ (x : FootRow). x.prob) c.args.rows.now c.loop-row.row-index none c.loop-row-test.true in
    fits_by (sum c.loop-row.chances) _ row.prob _ c.loop-row.invariant.total
    (subst (λ (found : List Vulnerability). sum_by (λ x. x.prob) found ≤ 1001000) (sym c.damages_near-here.ensures.value) (c.requires.kept.within c.args.vulnerability row.intensity))
    (omega arith)

pub loop-row-preserved : goal.loop-row-preserved
loop-row-preserved c =
    let none : FootRow = record { areaperil = 0; intensity = 0; prob = 0 } in
    let rows = c.args.portfolio.now.rows in
    let i = c.loop-row.row-index in
    let row = get_or c.args.rows.now i none in
    let is : c.damages_near-here.result.now ≡ damages_at rows c.args.vulnerability row.intensity = c.damages_near-here.ensures.value in
    let low = subst (λ (found : List Vulnerability). sum_by (λ x. x.prob) found ≤ 1001000) (sym is) (c.requires.kept.within c.args.vulnerability row.intensity) in
    record {
      each = λ bin within.
          let short : bin < length c.loop-row.chances = omega arith in
          c.add_damages.ensures.each bin short
          ∙ (ap (λ n. n + chance_at c.damages_near-here.result.now row.prob (bin + 1)) (c.loop-row.invariant.each bin within)
          ∙ (ap (λ (found : List Vulnerability). chance_in rows (take i c.args.rows.now) c.args.vulnerability (bin + 1) + chance_at found row.prob (bin + 1)) is
          ∙ sym (sum_by_more (λ (x : FootRow). chance_at (damages_at rows c.args.vulnerability x.intensity) x.prob (bin + 1)) c.args.rows.now i none c.loop-row-test.true)));
      total = subst (λ n. sum c.add_damages.new.chances ≤ 1001000 * n) (sym (sum_by_more (λ (x : FootRow). x.prob) c.args.rows.now i none c.loop-row-test.true))
          (fits_more (sum c.loop-row.chances) _ row.prob _ _ c.add_damages.ensures.total c.loop-row.invariant.total low);
    }
