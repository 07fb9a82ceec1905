use Rattle.std.proofs.Common.{◌≡◌, ◌++◌}
use Rattle.std.specs.List.{flat_map, range_with_len}
use Rattle.kt_cells.specs.Records.{records_bytes}
use Rattle.kt_gen.proofs.GroupLemmas.{groups_left}
use Rattle.kt_gen.proofs.groups.put_groups.Given as goal

abbrev pub invariant-loop-number : goal.invariant-loop-number
invariant-loop-number g l = record {
  written : l.out ++ groups_left g.G.Groups.kinds (g.G.Groups.rows l.groups l.fn.draws.seed) l.number l.number-end
      ≡ l.fn.out ++ records_bytes g.G.Groups.kinds (flat_map (g.G.Groups.rows l.groups l.fn.draws.seed) (range_with_len l.first l.count));
  at : l.draws.made ≡ g.G.Groups.before l.groups l.number;
  seed : l.draws.seed ≡ l.fn.draws.seed;
}
