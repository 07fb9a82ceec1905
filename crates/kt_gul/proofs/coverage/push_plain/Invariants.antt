-- The records are those of the items so far, and the losses of the others are left.
use Rattle.std.proofs.Common.{◌≡◌, ◌+◌, ◌++◌, map, take, drop}
use Rattle.std.specs.List.{filter_map, flat_map, range_with_len}
use Rattle.kt_gul.specs.GroundUp.{item_record, raw_loss}
use Rattle.kt_gul.proofs.coverage.push_plain.Given as goal

abbrev pub invariant-loop-struck : goal.invariant-loop-struck
invariant-loop-struck g l = record {
  rest_are : l.rest ≡ flat_map (λ struck. map (raw_loss l.portfolio.rows l.fn.draw.event l.cdfs struck.item) (range_with_len 0 (l.fn.draw.samples + 2))) (drop l.struck-index l.group);
  takes : g.E.Exit.takes l.fn.draw.samples l.exit;
  pieces_are : g.E.Exit.pieces l.exit ≡ g.E.Exit.pieces l.fn.exit ++ flat_map g.E.Exit.spelled (filter_map (item_record l.portfolio.rows l.fn.draw.samples l.fn.draw.cut l.fn.draw.event l.cdfs) (map (λ struck. struck.item) (take l.struck-index l.group)));
}
