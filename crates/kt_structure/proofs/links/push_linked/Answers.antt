use Rattle.std.proofs.Common.{◌≡◌, ◌++◌, ◌∙◌, ap, arith, length, length-append, map}
use Rattle.kt_rec.specs.Rising.{rising}
use Rattle.kt_structure.specs.Plan.{linked}
use Rattle.kt_structure.proofs.links.push_linked.Goals as goal

pub overflow_sub-result : goal.overflow_sub-result
overflow_sub-result c =
    omega (arith, c.len-before.ensures, c.len.ensures, c.args.below.now.ok.0, c.push_children.new.below.ok.0, ap length c.in_ok-push_children.ensures.ok, length-append c.args.below.now.items (rising (map (λ row. row.child) c.links_to.result.now)))

pub returns-clause-ok : goal.returns-clause-ok
returns-clause-ok c = c.in_ok-push_children.ensures.ok ∙ ap (λ rows. c.args.below.now.items ++ rising (map (λ row. row.child) rows)) c.links_to.ensures.value

pub returns-clause-count : goal.returns-clause-count
returns-clause-count c =
    let before = c.args.below.now.items in
    let more : c.push_children.new.below.items ≡ before ++ linked c.args.links.now c.args.level c.args.unit = c.in_ok-push_children.ensures.ok ∙ ap (λ rows. before ++ rising (map (λ row. row.child) rows)) c.links_to.ensures.value in
    omega (arith, c.len-before.ensures, c.len.ensures, c.args.below.now.ok.0, c.push_children.new.below.ok.0, ap length more, length-append before (linked c.args.links.now c.args.level c.args.unit))
