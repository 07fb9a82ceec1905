use Rattle.std.specs.List.{range_with_len}
use Rattle.std.proofs.lemmas.List.Concat.{flat_map_single}
use Rattle.kt_gen.proofs.IndexLemmas.{index_of-footprint}
use Rattle.kt_gen.specs.Hazard.{event_index_row, index_rows}
use Rattle.kt_gen.proofs.hazard.footprint_index_file.Goals as goal

pub returns : goal.returns
unfolding index_rows
returns c = λ seed before.
    rw (index_of-footprint seed before c.args.events)
    (rw (c.in_ok-out.ensures, flat_map_single event_index_row (range_with_len 1 c.args.events)) at c.in_ok-put_plain_groups.ensures)
