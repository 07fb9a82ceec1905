-- What is left of the records so far, or ceded.
use Rattle.std.proofs.Common.{◌≡◌, ◌+◌, ℕ, length, take}
use Rattle.std.specs.List.{filter_map}
use Rattle.kt_fmtree.specs.Tree.{Tree}
use Rattle.kt_fmtree.specs.Parts.{IsProgramme}
use Rattle.kt_ri.specs.Ceded.{AreCeded, record_behind}
use Rattle.kt_ri.proofs.net.lanes_behind.Given as goal

abbrev pub invariant-loop-at : goal.invariant-loop-at
invariant-loop-at g l = record {
  lane : length l.lane.items ≡ l.samples + 1;
  rows : l.made.rows ≡ l.samples + 1;
  records : (tree : Tree) (rule : ℕ) → IsProgramme tree l.stage → AreCeded l.stage rule l.samples (g.R.RunLosses.records_of l.run) l.ceded → l.made.records ≡ filter_map (record_behind l.left tree rule l.samples (g.R.RunLosses.records_of l.run)) (take l.at (g.R.RunLosses.records_of l.run));
}
