use Rattle.std.proofs.Common.{◌≡◌, ◌++◌, ◌+◌, ◌*◌, ◌≤◌, ℕ, true, length, map, take}
use Rattle.std.specs.List.{filter_map, flat_map}
use Rattle.kt_stream.specs.Losses.{loss_bytes}
use Rattle.kt_stream.specs.Write.{BeginsWith}
use Rattle.kt_fmtree.specs.Tree.{Tree}
use Rattle.kt_fmtree.specs.Parts.{IsProgramme}
use Rattle.kt_ri.specs.Ceded.{AreCeded, record_behind}
use Rattle.kt_ri.proofs.written.put_behind.Given as goal

-- what is left of the records so far
abbrev pub invariant-loop-held : goal.invariant-loop-held
invariant-loop-held g l = record {
  room : 12 * (l.samples + 2) + 12 ≤ length l.room.items;
  begins : BeginsWith l.fn.out l.out;
  written : (tree : Tree) (rule : ℕ) → IsProgramme tree l.stage → AreCeded l.stage rule l.samples (map g.T.RunEntry.entry_of l.records) l.ceded → l.out ≡ l.fn.out ++ flat_map loss_bytes (filter_map (record_behind true tree rule l.samples (map g.T.RunEntry.entry_of l.records)) (take l.held-index (map g.T.RunEntry.entry_of l.records)));
}
