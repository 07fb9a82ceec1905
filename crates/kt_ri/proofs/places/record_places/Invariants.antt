-- The places of the first records.
use Rattle.std.proofs.Common.{take}
use Rattle.kt_ri.specs.Ceding.{AreRecordPlaces}
use Rattle.kt_ri.proofs.places.record_places.Given as goal

abbrev pub invariant-loop-at : goal.invariant-loop-at
invariant-loop-at l = AreRecordPlaces l.ids (take l.at l.losses.records) l.places.items
