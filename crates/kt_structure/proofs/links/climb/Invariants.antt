-- The links of the levels so far, and those of the ids to the units of the last of them.
use Rattle.std.proofs.Common.{◌≡◌}
use Rattle.std.specs.List.{filter_map}
use Rattle.kt_structure.specs.Plan.{end_link, links_up}
use Rattle.kt_keys.specs.UnitTable.{value_of}
use Rattle.kt_structure.proofs.links.climb.Given as goal

abbrev pub invariant-loop-below : goal.invariant-loop-below
invariant-loop-below l = record {
  links_are : l.links.items ≡ links_up (value_of l.next) l.ids l.below;
  ends_are : l.ends.items ≡ filter_map (end_link (value_of l.next) l.below) l.ids;
}
