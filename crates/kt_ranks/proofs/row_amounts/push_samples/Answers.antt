-- The amounts stand behind those that there were.
use Rattle.std.proofs.Common.{◌≡◌, ◌+◌, ◌-◌, ◌++◌, List, ℕ, false, length, replicate, take, take_all, sym, ap, arith, ◌∙◌}
use Rattle.std.proofs.lemmas.List.{take_at}
use Rattle.std.specs.Vec.{vec_len}
use Rattle.kt_period_cells.specs.RowCells.{placed}
use Rattle.kt_period_cells.specs.SummaryRows.{cell_amounts}
use Rattle.kt_ranks.proofs.ListsOfSamples.{written_back}
use Rattle.kt_ranks.proofs.row_amounts.push_samples.Goals as goal

pub returns : goal.returns
returns c =
    let found = c.args.found.now.items in
    let used = c.len-used.result in
    let many : length found ≡ used = omega (arith, c.len-used.ensures, c.args.found.now.ok.0) in
    let room = used + length c.args.samples.now in
    let front : take used c.as_mut_slice.result.now ≡ found =
    ap (take used) (c.as_mut_slice.ensures.value ∙ c.in_ok-resize.ensures.items)
    ∙ ap (λ (xs : List ℕ). take used (xs ++ replicate (room - vec_len c.args.found.now) 0)) (take_all room found (omega (arith, many))) ∙ take_at found (replicate (room - vec_len c.args.found.now) 0) used many in
    record {
      ok = c.truncate.ensures.items
          ∙ ap (take c.write_samples-end.result) (written_back c.write_samples-end.new.values c.resize.new.self.items c.resize.new.self.len (c.write_samples-end.ensures.size ∙ c.as_mut_slice.ensures.len) (sym (ap length c.as_mut_slice.ensures.value) ∙ c.as_mut_slice.ensures.len))
          ∙ c.write_samples-end.ensures.value ∙ ap (λ (xs : List ℕ). xs ++ cell_amounts c.args.maxima false (placed 1 c.args.samples.now)) front;
    }
