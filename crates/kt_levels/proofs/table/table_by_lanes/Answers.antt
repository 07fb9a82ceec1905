use Rattle.kt_levels.proofs.TableLemmas.{table-are}
use Rattle.kt_levels.proofs.table.table_by_lanes.Goals as goal

pub returns : goal.returns
returns c = record {
  value = λ tree records is by_ids.
      table-are tree c.args.programme.now is c.args.samples records c.args.lanes.now by_ids c.args.rule c.args.layers.now c.in_ok-made.made c.in_ok-made.ensures.value;
}
