-- The links of the ids so far, and those between units behind the others.
use Rattle.std.proofs.Common.{◌≡◌, ◌++◌, take}
use Rattle.std.specs.List.{filter_map}
use Rattle.kt_structure.specs.Plan.{end_up, link_up}
use Rattle.kt_keys.specs.UnitTable.{value_of}
use Rattle.kt_structure.proofs.links.ends_up.Given as goal

abbrev pub invariant-loop-end : goal.invariant-loop-end
invariant-loop-end l = record {
  links_are : l.links.items ≡ l.fn.links.items ++ filter_map (link_up (value_of l.next) l.level) (take l.end-index l.ends);
  higher_are : l.higher.items ≡ filter_map (end_up (value_of l.next) l.level) (take l.end-index l.ends);
}
