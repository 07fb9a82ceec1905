use Rattle.std.proofs.Common.{◌≡◌, ◌+◌, drop}
use Rattle.kt_cells.specs.Records.{record_width}
use Rattle.kt_cells.proofs.records.record_width.Given as goal

abbrev pub invariant-loop-kind : goal.invariant-loop-kind
invariant-loop-kind l = l.bytes + record_width (drop l.kind-index l.kinds) ≡ record_width l.kinds
