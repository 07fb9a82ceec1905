use Rattle.std.proofs.Common.{◌≡◌, ◌+◌, ◌++◌, ◌∷◌, ◌∙◌, ap, append-nil, arith, drop, map, sym}
use Rattle.std.proofs.lemmas.List.{drop_all}
use Rattle.kt_rules.specs.Amounts.{total}
use Rattle.kt_fmtree.specs.Placed.{parts_from}
use Rattle.kt_fmtree.proofs.GivingLemmas.{given-more, next-of}
use Rattle.kt_fmtree.proofs.giving.push_losses.Goals as goal

pub loop-at-init : goal.loop-at-init
loop-at-init c =
    let none : c.args.start + 0 ≡ c.args.start = omega arith in
    ap (λ n. c.args.parts.now.items ++ parts_from n (map total c.args.children.now)) none

pub loop-at-preserved : goal.loop-at-preserved
loop-at-preserved c =
    let children = c.args.children.now in
    let at = c.loop-at.at in
    given-more c.args.start at c.ground_up.result (map total (drop at children)) (map total (drop (at + 1) children)) c.loop-at.parts.items c.push.new.self.items _
    (next-of total children at (record { loss = 0; ded = 0; over = 0; kept = 0 }) c.loop-at-test.true ∙ ap (λ n. n ∷ map total (drop (at + 1) children)) (sym c.ground_up.ensures.value))
    c.loop-at.invariant c.in_ok-push.ensures.items

pub returns : goal.returns
returns c =
    let now = c.loop-at.parts.items in
    record { value = sym (append-nil now) ∙ (ap (λ left. now ++ parts_from (c.args.start + c.loop-at.at) (map total left)) (sym (drop_all c.loop-at.at c.args.children.now c.loop-at-test.false)) ∙ c.loop-at.invariant) }
