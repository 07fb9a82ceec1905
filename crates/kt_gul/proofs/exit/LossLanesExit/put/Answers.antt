use Rattle.std.proofs.Common.{◌≡◌, ◌∷◌, ◌++◌, ◌∙◌, ℕ, List, length, slice_index, ap, sym, arith}
use Rattle.std.proofs.lemmas.Result.{on_ok_weaker}
use Rattle.kt_stream.specs.declared.entry.LossRecord.{LossRecord}
use Rattle.kt_gul.proofs.LaneLemmas.{first-and-lane, row-record}
use Rattle.kt_gul.proofs.exit.LossLanesExit.put.Goals as goal

pub put_with-requires : goal.put_with-requires
put_with-requires c =
    let row = c.args.row.now in
    record { rows = omega (arith, c.requires.row, c.requires.takes, ap length c.lane_of.ensures.value, ap length (first-and-lane row (omega (arith, c.requires.row)))) }

pub returns-clause-ok : goal.returns-clause-ok
returns-clause-ok c =
    let row = c.args.row.now in
    let lane = c.lane_of.result.now in
    let is_row : row ≡ slice_index row 0 ∷ lane = first-and-lane row (omega (arith, c.requires.row)) ∙ ap (λ (lane : List ℕ). slice_index row 0 ∷ lane) (sym c.lane_of.ensures.value) in
    on_ok_weaker c.put_with.result
    (λ is. is ∙ ap (λ (more : List LossRecord). c.args.self.now.records ++ more) (row-record c.args.draw.event c.args.id (slice_index row 0) row lane c.args.draw.samples c.requires.row is_row)) c.put_with.ensures.ok
