use Rattle.std.proofs.Common.{drop}
use Rattle.std.specs.List.{range_with_len}
use Rattle.kt_gen.proofs.GroupLemmas.{map-flat_map}
use Rattle.kt_gen.specs.Hazard.{footprint_rows, struck_rows}
use Rattle.kt_gen.proofs.hazard.footprint_file.Goals as goal

pub returns-clause-value : goal.returns-clause-value
unfolding footprint_rows
returns-clause-value c =
    rw (map-flat_map (drop 1) (struck_rows c.args.draws.now.seed c.args.draws.now.made) (range_with_len 1 c.args.events)) (rw c.in_ok-out.ensures at c.in_ok-put_groups.ensures.ok)
