-- One row more is noted.
use Rattle.std.proofs.Common.{◌≡◌, ◌++◌, ◌∷◌, suc, List, Some, cond, take, drop, arith, ap, sym, ◌∙◌}
use Rattle.std.specs.Map.{lookup}
use Rattle.std.proofs.lemmas.List.{take-append-drop}
use Rattle.std.proofs.Math.Seq.{drop-cons}
use Rattle.kt_period_cells.specs.declared.row.Row.{Row}
use Rattle.kt_period_cells.specs.declared.row_key.IndexKey.{IndexKey}
use Rattle.kt_period_cells.specs.Rows.{index_key, same_index}
use Rattle.kt_period_cells.proofs.Joined.{index_more}
use Rattle.kt_period_cells.proofs.rows.taking.index_rows.Goals as goal

pub loop-at-preserved : goal.loop-at-preserved
loop-at-preserved c =
    let at = c.loop-at.at in
    let rows = c.args.rows.now in
    let row = c.index-rows-at.result in
    let around : rows ≡ take at rows ++ row ∷ drop (suc at) rows =
    sym (take-append-drop at rows) ∙ ap (λ (rs : List Row). take at rows ++ rs) (drop-cons rows at row c.loop-at-test.true ∙ ap (λ (r : Row). r ∷ drop (suc at) rows) (sym c.index-rows-at.is)) in
    record {
      room = omega (arith, c.loop-at.invariant.room, c.in-Ok.ensures.spare);
      found = index_more c.loop-at.index.entries c.insert.new.self.entries rows at row (drop (suc at) rows) c.loop-at-test.true c.index-rows-at.is around c.requires.apart c.loop-at.invariant.found
          (λ q. c.in-Ok.ensures.updates.0 q ∙ ap (λ (k : IndexKey). cond (same_index k q) (Some at) (lookup (same_index q) c.loop-at.index.entries)) (c.index_key.ensures.value ∙ ap (λ (r : Row). index_key r.key) (sym c.index-rows-at.is)));
    }
