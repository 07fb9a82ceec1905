use Rattle.std.proofs.Common.{◌≡◌, map, take}
use Rattle.kt_runs.specs.Records.{ids_of}
use Rattle.kt_runs.proofs.losses.ids_of.Given as goal

abbrev pub invariant-loop-held : goal.invariant-loop-held
invariant-loop-held g l = l.ids.items ≡ take l.held-index (ids_of (map g.T.RunEntry.entry_of l.records))
