use Rattle.std.proofs.Common.{◌≡◌, ◌∙◌, ◌+◌, ◌++◌, ap, arith}
use Rattle.std.specs.List.{filter_map}
use Rattle.kt_structure.specs.Plan.{end_link, end_up, link_up, links_up}
use Rattle.kt_keys.specs.UnitTable.{value_of}
use Rattle.kt_structure.proofs.LinkLemmas.{climb-begins, ends-go, links-go}
use Rattle.kt_structure.proofs.links.climb.Goals as goal

pub loop-below-init : goal.loop-below-init
loop-below-init c = record {
  links_are = c.in_ok-links.ensures.items;
  ends_are = c.in_ok-ends.ensures.value ∙ climb-begins (value_of c.args.next.now) c.args.ids.now;
}

pub loop-below-preserved : goal.loop-below-preserved
loop-below-preserved c =
    let next = value_of c.args.next.now in
    let ids = c.args.ids.now in
    let below = c.loop-below.below in
    let here = c.loop-below.invariant in
    let same = c.deref.ensures.value in
    record {
      links_are = links-go next ids below c.loop-below.links.items c.ends_up.new.links.items c.loop-below.ends.items here.links_are here.ends_are (c.in_ok-higher.ensures.links ∙ ap (λ ends. c.loop-below.links.items ++ filter_map (link_up next (below + 1)) ends) same);
      ends_are = ends-go next ids below c.loop-below.ends.items c.in_ok-higher.higher.items here.ends_are (c.in_ok-higher.ensures.value ∙ ap (filter_map (end_up next (below + 1))) same);
    }

pub returns : goal.returns
returns c =
    let next = value_of c.args.next.now in
    let ids = c.args.ids.now in
    let all : c.loop-below.below ≡ c.args.top = omega arith in
    record {
      links = c.loop-below.invariant.links_are ∙ ap (links_up next ids) all;
      ends = c.loop-below.invariant.ends_are ∙ ap (λ levels. filter_map (end_link next levels) ids) all;
    }
