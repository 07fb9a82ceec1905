-- One more key is looked at, and is none before it: the set has it too.
use Rattle.std.proofs.Common.{◌≡◌, ◌<◌, length, sym, ◌∙◌, arith, false, true}
use Rattle.std.specs.List.{list_any}
use Rattle.std.specs.HashSet.{contains}
use Rattle.kt_keys.proofs.FirstRowLemmas.{member-step, refused-here, refused-step, not_false, not_true}
use Rattle.kt_keys.proofs.rows.first_repeated.Goals as goal

pub loop-index-preserved : goal.loop-index-preserved
loop-index-preserved g c =
    let same = g.K.PartialEq.eq in
    let key = c.index-keys-index.result in
    let keys = c.args.keys.now in
    let i = c.loop-index.index in
    let h : i < length keys = omega arith in
    let absent : contains same c.loop-index.seen key ≡ false = not_true _ (sym c.in_ok-insert.ensures.added ∙ c.if-not-branch.false) in
    record {
      members = λ other. member-step g.met.K.Eq.laws keys i key other _ _ h c.index-keys-index.is (c.in_ok-insert.ensures.updates.0 other) (c.loop-index.invariant.members other);
      first = refused-step (λ earlier x. list_any (same x) earlier) keys i key _ h c.index-keys-index.is (sym (c.loop-index.invariant.members key) ∙ absent) c.loop-index.invariant.first;
    }

pub returns-then-not-branch : goal.returns-then-not-branch
returns-then-not-branch g c =
    let same = g.K.PartialEq.eq in
    let key = c.index-keys-index.result in
    let keys = c.args.keys.now in
    let i = c.loop-index.index in
    let there : contains same c.loop-index.seen key ≡ true = not_false _ (sym c.in_ok-insert.ensures.added ∙ c.if-not-branch.true) in
    record { value = refused-here (λ earlier x. list_any (same x) earlier) keys i key _ (omega arith) c.index-keys-index.is (sym (c.loop-index.invariant.members key) ∙ there) c.loop-index.invariant.first }
