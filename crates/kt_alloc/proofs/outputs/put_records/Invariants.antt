-- The records of the outputs so far.
use Rattle.std.proofs.Common.{◌≡◌, ◌++◌, ◌+◌, ◌*◌, ◌≤◌, length, take}
use Rattle.std.specs.List.{filter_map, flat_map}
use Rattle.kt_stream.specs.Losses.{loss_bytes}
use Rattle.kt_alloc.specs.Table.{record_in}
use Rattle.kt_alloc.proofs.outputs.put_records.Given as goal

abbrev pub invariant-loop-outlet : goal.invariant-loop-outlet
invariant-loop-outlet l = record {
  room : 12 * length l.table + 12 ≤ length l.room.items;
  written : l.out ≡ l.fn.out ++ flat_map loss_bytes (filter_map (record_in l.event l.table) (take l.outlet-index l.outlets));
}
