use Rattle.std.proofs.Common.{◌≡◌, ◌∙◌, ◌++◌, ◌∷◌, [], List, ℕ, length, slice_index, ap, sym, subst, ne_eqb}
use Rattle.std.proofs.lemmas.List.{map-append}
use Rattle.kt_fmtree.specs.Sharing.{allocated}
use Rattle.kt_fmtree.specs.Tree.{beneath, policy_loss}
use Rattle.kt_fmtree.specs.Carried.{loss_by}
use Rattle.kt_lanes.specs.Lanes.{AreWide, column}
use Rattle.kt_lanes.specs.LaneLaws.{All-more}
use Rattle.kt_lanes.specs.BehindLaws.{behind-column, behind-wide}
use Rattle.kt_levels.proofs.RowLemmas.{shares-back, shares-whole, top-is}
use Rattle.kt_levels.proofs.by_lanes.push_shares.Goals as goal

pub push-requires : goal.push-requires
push-requires c = record { wide = subst (λ n. AreWide n c.args.out.now) (sym c.requires.policies.wide) c.requires.out }

pub returns-then-rule-eq0-clause-wide : goal.returns-then-rule-eq0-clause-wide
returns-then-rule-eq0-clause-wide c =
    subst (AreWide c.args.climbed.now.width) (sym c.in_ok-push.ensures.ok) (All-more (λ (lane : List ℕ). length lane ≡ c.args.climbed.now.width) c.args.out.now c.args.policies.now c.requires.out c.requires.policies.wide)

pub returns-then-rule-eq0-clause-value : goal.returns-then-rule-eq0-clause-value
returns-then-rule-eq0-clause-value c = λ tree is k less.
    let losses = loss_by tree.ids (column k c.args.lanes.now) in
    let before = column k c.args.out.now in
    ap (column k) c.in_ok-push.ensures.ok
    ∙ (map-append (λ (lane : List ℕ). slice_index lane k) c.args.out.now (c.args.policies.now ∷ [])
    ∙ ap (λ back. before ++ back)
    (ap (λ n. n ∷ []) (c.requires.policies.policy_is tree is k less ∙ ap (λ top. policy_loss tree losses top c.args.one.layer) (top-is tree c.args.programme.now is c.args.one c.requires.layer))
    ∙ sym (shares-whole tree losses c.args.rule c.args.one.top c.args.one.layer c.if-rule-eq0.true)))

pub returns-clause-wide : goal.returns-clause-wide
returns-clause-wide c =
    let has = c.is_of_a_tree.ensures.kept in
    behind-wide c.args.climbed.now.width (length (beneath has.tree (slice_index has.tree.tops c.args.one.node))) _ c.args.out.now c.allocate_lanes.new.out c.requires.out (c.in_ok-allocate_lanes.ensures.value has.tree has.is)

pub returns-clause-value : goal.returns-clause-value
returns-clause-value c = λ tree is k less.
    let losses = loss_by tree.ids (column k c.args.lanes.now) in
    let before = column k c.args.out.now in
    behind-column c.args.climbed.now.width (length (beneath tree (slice_index tree.tops c.args.one.node))) _ c.args.out.now c.allocate_lanes.new.out (c.in_ok-allocate_lanes.ensures.value tree is) k less
    ∙ ap (λ back. before ++ back)
    (ap (λ top. allocated tree losses c.args.rule top c.args.one.layer) (top-is tree c.args.programme.now is c.args.one c.requires.layer)
    ∙ sym (shares-back tree losses c.args.rule c.args.one.top c.args.one.layer (ne_eqb c.args.rule 0 c.if-rule-eq0.false)))
