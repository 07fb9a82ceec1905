-- The first stages leave of these losses what is there, and it has a row for the mean and one for each sample.
use Rattle.std.proofs.Common.{◌≡◌, ◌+◌}
use Rattle.kt_ri.proofs.StageLemmas.{IsLeft}
use Rattle.kt_ri.proofs.stages.reinsure_lanes.Given as goal

abbrev pub invariant-loop-stage : goal.invariant-loop-stage
invariant-loop-stage l = record {
  rows : l.net.rows ≡ l.samples + 1;
  left : IsLeft l.samples l.fn.losses.records l.stages l.stage-index l.net.records;
}
