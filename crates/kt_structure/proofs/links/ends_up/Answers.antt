use Rattle.std.proofs.Common.{[], ◌++◌, ◌∙◌, ap, append-nil, sym}
use Rattle.std.specs.List.{filter_map}
use Rattle.std.proofs.lemmas.List.{take_all}
use Rattle.kt_structure.specs.Plan.{end_up, link_to, link_up}
use Rattle.kt_keys.specs.UnitTable.{value_of}
use Rattle.kt_structure.proofs.LinkLemmas.{made-goes}
use Rattle.kt_structure.proofs.links.ends_up.Goals as goal

pub loop-end-init : goal.loop-end-init
loop-end-init c = record {
  links_are = sym (append-nil c.args.links.now.items);
  higher_are = c.in_ok-higher.ensures.items;
}

pub loop-end-preserved : goal.loop-end-preserved
loop-end-preserved c =
    let next = value_of c.args.next.now in
    let here = c.loop-end.invariant in
    record {
      links_are = made-goes c.args.links.now.items (link_up next c.args.level) c.args.ends.now c.loop-end.end-index (link_to 0 0 0) c.loop-end.links.items c.push_up.new.links.items c.loop-end-test.true here.links_are c.in_ok-push_up.ensures.links;
      higher_are = made-goes [] (end_up next c.args.level) c.args.ends.now c.loop-end.end-index (link_to 0 0 0) c.loop-end.higher.items c.push_up.new.ends.items c.loop-end-test.true here.higher_are c.in_ok-push_up.ensures.ends;
    }

pub returns : goal.returns
returns c =
    let next = value_of c.args.next.now in
    let here = c.loop-end.invariant in
    let all = take_all c.loop-end.end-index c.args.ends.now c.loop-end-test.false in
    record {
      links = here.links_are ∙ ap (λ ends. c.args.links.now.items ++ filter_map (link_up next c.args.level) ends) all;
      value = here.higher_are ∙ ap (filter_map (end_up next c.args.level)) all;
    }
