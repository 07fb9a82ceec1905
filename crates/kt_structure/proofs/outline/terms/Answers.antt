use Rattle.std.proofs.Common.{◌∙◌, [], ap, map, slice_index_or}
use Rattle.std.proofs.lemmas.List.{get_or-map, take_all}
use Rattle.kt_fmtree.specs.ListLaws.{ends-go, lists-go}
use Rattle.kt_structure.specs.Plan.{found_terms}
use Rattle.kt_structure.proofs.outline.terms.Goals as goal

pub loop-at-preserved : goal.loop-at-preserved
loop-at-preserved c =
    let here = c.loop-at.invariant in
    let now = c.push_terms.new.row in
    let more = c.in_ok-push_terms.ensures.ok in
    let many = c.len.ensures ∙ now.ok.0 in
    let tops = c.args.tops.now in
    let at = c.loop-at.at in
    record {
      ends_are = ends-go c.loop-at.all.items now.items _ c.loop-at.bounds.items c.push.new.self.items c.len.result here.ends_are more c.in_ok-push.ensures.items many;
      lists_are = λ layers_at same.
          lists-go (λ top. map (λ layer. found_terms c.args.terms.now layer c.args.level top) (layers_at top)) tops at 0 c.loop-at.all.items now.items _ c.loop-at.bounds.items c.push.new.self.items c.len.result c.loop-at-test.true here.ends_are (here.lists_are layers_at same) more c.in_ok-push.ensures.items many
          (ap (map (λ layer. found_terms c.args.terms.now layer c.args.level (slice_index_or tops at 0))) (c.at.ensures.value ∙ (ap (λ all. slice_index_or all at []) same ∙ get_or-map layers_at tops at 0 [] c.loop-at-test.true)));
    }

pub returns : goal.returns
returns c = record {
  value = λ layers_at same. c.new.ensures.value ∙ (c.loop-at.invariant.lists_are layers_at same ∙ ap (map (λ top. map (λ layer. found_terms c.args.terms.now layer c.args.level top) (layers_at top))) (take_all c.loop-at.at c.args.tops.now c.loop-at-test.false));
}
