use Rattle.std.proofs.Common.{◌++◌, ◌∙◌, List, ap, slice_index_or, sym, subst, take}
use Rattle.std.proofs.lemmas.List.{take_more}
use Rattle.kt_fmtree.specs.Tree.{policy_loss}
use Rattle.kt_levels.specs.Row.{HasRow}
use Rattle.kt_levels.specs.declared.layers.TopLayer.{TopLayer}
use Rattle.kt_levels.proofs.RowLemmas.{layer-at, row-more, row-none, top-is}
use Rattle.kt_levels.proofs.row.row_of.Goals as goal

pub shares_of-requires-clause-layer : goal.shares_of-requires-clause-layer
shares_of-requires-clause-layer c = layer-at c.args.programme.now c.args.layers.now c.requires.layers c.loop-one.one-index c.loop-one-test.true

pub loop-one-preserved : goal.loop-one-preserved
loop-one-preserved c = λ tree loss is carried.
    let none : TopLayer = record { node = 0; top = 0; layer = 0 } in
    let i = c.loop-one.one-index in
    let layers = c.args.layers.now in
    let one = slice_index_or layers i none in
    let within = layer-at c.args.programme.now layers c.requires.layers i c.loop-one-test.true in
    subst (λ (front : List TopLayer). HasRow tree loss c.args.rule front c.extend_from_slice.new.self.items c.push.new.self.items) (sym (take_more layers i none c.loop-one-test.true))
    (row-more tree loss c.args.rule (take i layers) one c.loop-one.shares.items c.loop-one.policies.items c.in_ok-made.made.items c.extend_from_slice.new.self.items c.push.new.self.items c.policy-policy.result (c.loop-one.invariant tree loss is carried)
    (c.in_ok-made.ensures.value tree loss is carried)
    (c.policy-policy.ensures.value tree loss is carried ∙ ap (λ top. policy_loss tree loss top one.layer) (top-is tree c.args.programme.now is one within))
    (c.in_ok-extend_from_slice.ensures.items ∙ ap (λ made. c.loop-one.shares.items ++ made) c.deref.ensures.value) c.in_ok-push.ensures.items)

pub policy-policy-requires-clause-node : goal.policy-policy-requires-clause-node
policy-policy-requires-clause-node c = (layer-at c.args.programme.now c.args.layers.now c.requires.layers c.loop-one.one-index c.loop-one-test.true).node

pub policy-policy-requires-clause-layer : goal.policy-policy-requires-clause-layer
policy-policy-requires-clause-layer c = (layer-at c.args.programme.now c.args.layers.now c.requires.layers c.loop-one.one-index c.loop-one-test.true).layer

pub shares_of-requires-clause-policy : goal.shares_of-requires-clause-policy
shares_of-requires-clause-policy c = c.policy-policy.ensures.value

pub loop-one-init : goal.loop-one-init
loop-one-init c tree loss is carried = row-none tree loss c.args.rule c.new-shares.result.items c.in_ok-policies.policies.items c.new-shares.ensures.items c.in_ok-policies.ensures.items
