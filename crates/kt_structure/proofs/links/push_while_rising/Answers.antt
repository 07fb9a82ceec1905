use Rattle.std.proofs.Common.{◌∙◌, ◌++◌, List, ap, arith, map}
use Rattle.std.proofs.lemmas.List.{take_all}
use Rattle.kt_rec.specs.Rising.{rising}
use Rattle.kt_structure.specs.Plan.{link_to}
use Rattle.kt_structure.specs.declared.links.Link.{Link}
use Rattle.kt_structure.proofs.RisingLemmas.{front-stays, pushed-more, pushed-none, pushed-same}
use Rattle.kt_structure.proofs.links.push_while_rising.Goals as goal
use Rattle.kt_structure.proofs.links.push_while_rising.Goals.{then-floor-child+in_ok-push, else-floor-child}

pub loop-link-init : goal.loop-link-init
loop-link-init c = pushed-none c.args.below.now.items c.args.links.now

pub loop-link-preserved : goal.loop-link-preserved
loop-link-preserved c =
    let before = c.args.below.now.items in
    let links = c.args.links.now in
    let i = c.loop-link.link-index in
    let here = c.loop-link.invariant in
    elim c.if-floor-child.branch [
      | then-floor-child+in_ok-push w ↦ rw (w.below-is, w.floor-is, c.from-child.ensures) (pushed-more before links i c.loop-link.floor c.loop-link.below.items (link_to 0 0 0) c.loop-link-test.true here w.push.new.self.items (omega (arith, w.if-floor-child.true, c.from-child.ensures)) w.in_ok-push.ensures.items)
      | else-floor-child w ↦ rw (w.below-is, w.floor-is) (pushed-same before links i c.loop-link.floor c.loop-link.below.items (link_to 0 0 0) c.loop-link-test.true here (omega (arith, w.if-floor-child.false, c.if-child-floor.false, c.from-child.ensures)))
    ]

pub returns-then-child-floor-clause-behind : goal.returns-then-child-floor-clause-behind
returns-then-child-floor-clause-behind c = front-stays c.args.below.now.items _ _ c.loop-link.invariant.are

pub returns : goal.returns
returns c =
    let before = c.args.below.now.items in
    let here = c.loop-link.invariant.are in
    record {
      all = λ _. here ∙ ap (λ (links : List Link). before ++ rising (map (λ (link : Link). link.child) links)) (take_all c.loop-link.link-index c.args.links.now c.loop-link-test.false);
      behind = front-stays before _ _ here;
    }
