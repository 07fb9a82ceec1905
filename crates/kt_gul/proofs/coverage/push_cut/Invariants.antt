-- The records are those of the items so far.
use Rattle.std.proofs.Common.{◌≡◌, ◌+◌, ◌++◌, length, map, take}
use Rattle.std.specs.List.{filter_map, flat_map}
use Rattle.kt_gul.specs.GroundUp.{item_record}
use Rattle.kt_gul.specs.Gathered.{ArePushed}
use Rattle.kt_gul.proofs.coverage.push_cut.Given as goal

abbrev pub invariant-loop-struck : goal.invariant-loop-struck
invariant-loop-struck g l = record {
  pushed : ArePushed l.portfolio.rows l.fn.draw.event l.cdfs (l.fn.draw.samples + 2) l.group l.struck-index l.rest l.before;
  width : length l.cut ≡ l.fn.draw.samples + 2;
  takes : g.E.Exit.takes l.fn.draw.samples l.exit;
  pieces_are : g.E.Exit.pieces l.exit ≡ g.E.Exit.pieces l.fn.exit ++ flat_map g.E.Exit.spelled (filter_map (item_record l.portfolio.rows l.fn.draw.samples l.fn.draw.cut l.fn.draw.event l.cdfs) (map (λ struck. struck.item) (take l.struck-index l.group)));
}
