use Rattle.std.proofs.Common.{◌∙◌, ap, map, refl}
use Rattle.std.proofs.lemmas.List.{take_all}
use Rattle.kt_fmtree.specs.ListLaws.{ends-go, lists-go}
use Rattle.kt_fmtree.specs.Programme.{or_first}
use Rattle.kt_structure.specs.Plan.{linked}
use Rattle.kt_structure.proofs.outline.layers.Goals as goal

pub loop-top-preserved : goal.loop-top-preserved
loop-top-preserved c =
    let here = c.loop-top.invariant in
    let now = c.push_layers.new.layers in
    let more = c.in_ok-push_layers.ensures.ok in
    let many = c.len.ensures ∙ now.ok.0 in
    record {
      ends_are = ends-go c.loop-top.all.items now.items _ c.loop-top.bounds.items c.push.new.self.items c.len.result here.ends_are more c.in_ok-push.ensures.items many;
      lists_are = lists-go (λ top. or_first (linked c.args.links.now c.args.level top)) c.args.tops.now c.loop-top.top-index 0 c.loop-top.all.items now.items _ c.loop-top.bounds.items c.push.new.self.items c.len.result c.loop-top-test.true here.ends_are here.lists_are more c.in_ok-push.ensures.items many refl;
    }

pub returns : goal.returns
returns c = record {
  value = c.new.ensures.value ∙ (c.loop-top.invariant.lists_are ∙ ap (map (λ top. or_first (linked c.args.links.now c.args.level top))) (take_all c.loop-top.top-index c.args.tops.now c.loop-top-test.false));
}
