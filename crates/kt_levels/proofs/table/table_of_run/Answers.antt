use Rattle.std.proofs.Common.{◌≡◌, ◌+◌, IfOk, List, Result, ℕ, map, subst}
use Rattle.std.proofs.lemmas.Result.{IfOk-weaker}
use Rattle.kt_stream.specs.declared.entry.LossRecord.{LossRecord}
use Rattle.kt_runs.specs.RunLosses.{AreWithin}
use Rattle.kt_fmtree.specs.Tree.{Tree}
use Rattle.kt_fmtree.specs.Parts.{HasProgramme, IsProgramme, Parts}
use Rattle.kt_levels.specs.Climbed.{AreLosses}
use Rattle.kt_levels.specs.Layers.{key_of}
use Rattle.kt_levels.specs.Row.{Shared}
use Rattle.kt_levels.specs.Table.{table_for}
use Rattle.kt_runs.specs.Taken.{AreIdLanes}
use Rattle.kt_levels.proofs.IdLemmas.{ids-losses}
use Rattle.kt_levels.proofs.table.table_of_run.Goals as goal

module _ (parts : Parts) (ids : List ℕ) (ids_are : ids ≡ parts.ids) (samples : ℕ) (records : List LossRecord) (lanes : List (List ℕ)) (are : AreIdLanes ids samples records lanes) where
  by_ids : AreIdLanes parts.ids samples records lanes
  by_ids = subst (λ (ids : List ℕ). AreIdLanes ids samples records lanes) ids_are are

  -- the lanes of a programme's ids can be carried up
  carried : HasProgramme parts → AreWithin records → AreLosses parts (samples + 1) lanes
  carried has within = ids-losses has.tree parts has.is samples records lanes by_ids within

  -- and what is made of them is made of the run
  of-run : {E : Type 0} (answer : Result (List Shared) E) (rule : ℕ) (keys : List (ℕ × ℕ)) → IfOk answer (λ table. (tree : Tree) (records : List LossRecord) → IsProgramme tree parts → AreIdLanes parts.ids samples records lanes → table ≡ table_for tree rule samples records keys) → IfOk answer (λ table. (tree : Tree) → IsProgramme tree parts → table ≡ table_for tree rule samples records keys)
  of-run answer rule keys all =
      IfOk-weaker answer (λ table. (tree : Tree) (records : List LossRecord) → IsProgramme tree parts → AreIdLanes parts.ids samples records lanes → table ≡ table_for tree rule samples records keys)
      (λ table. (tree : Tree) → IsProgramme tree parts → table ≡ table_for tree rule samples records keys) (λ table all tree is. all tree records is by_ids) all

pub table_by_lanes-requires-clause-lanes : goal.table_by_lanes-requires-clause-lanes
table_by_lanes-requires-clause-lanes g c =
    carried c.args.programme.now _ c.ids-ids.ensures.value c.args.samples (g.R.RunLosses.records_of c.args.run.now) c.in-Some.lanes.now c.in-Some.ensures.value c.is_of_a_tree.ensures.kept c.requires.within

pub returns-in-Some : goal.returns-in-Some
returns-in-Some g c = record {
  value = of-run c.args.programme.now _ c.ids-ids.ensures.value c.args.samples (g.R.RunLosses.records_of c.args.run.now) c.in-Some.lanes.now c.in-Some.ensures.value c.table_by_lanes.result c.args.rule (map key_of c.args.layers.now) c.table_by_lanes.ensures.value;
}

pub table_by_lanes-requires-2-clause-lanes : goal.table_by_lanes-requires-2-clause-lanes
table_by_lanes-requires-2-clause-lanes g c =
    carried c.args.programme.now _ c.ids-ids.ensures.value c.args.samples (g.R.RunLosses.records_of c.args.run.now) c.in_ok-lanes.lanes c.in_ok-lanes.ensures.value c.is_of_a_tree.ensures.kept c.requires.within

pub returns : goal.returns
returns g c = record {
  value = of-run c.args.programme.now _ c.ids-ids.ensures.value c.args.samples (g.R.RunLosses.records_of c.args.run.now) c.in_ok-lanes.lanes c.in_ok-lanes.ensures.value c.table_by_lanes-2.result c.args.rule (map key_of c.args.layers.now) c.table_by_lanes-2.ensures.value;
}
