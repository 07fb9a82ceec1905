use Rattle.std.proofs.Common.{◌∙◌, List, ℕ, subst, sym}
use Rattle.kt_tables.specs.PairsMade.{IsLastPair, IsNotLastPair}
use Rattle.kt_tables.proofs.PairsMadeLemmas.{above_all, put_again, put_behind}
use Rattle.kt_tables.proofs.lookups.items.push_pair.Goals as goal

pub returns-then-is_last-clause-value : goal.returns-then-is_last-clause-value
returns-then-is_last-clause-value c =
    let pair : ℕ × ℕ = (c.args.areaperil, c.args.vulnerability) in
    sym (put_again pair c.args.pairs.now.items c.requires.rising (subst (λ (pairs : List (ℕ × ℕ)). IsLastPair pairs pair) c.deref.ensures.value (c.is_last.ensures.same c.if-is_last.true)))

pub returns-clause-value : goal.returns-clause-value
returns-clause-value c =
    let pair : ℕ × ℕ = (c.args.areaperil, c.args.vulnerability) in
    let other = subst (λ (pairs : List (ℕ × ℕ)). IsNotLastPair pairs pair) c.deref.ensures.value (c.is_last.ensures.other c.if-is_last.false) in
    c.in_ok-push.ensures.items ∙ sym (put_behind pair c.args.pairs.now.items (above_all pair c.args.pairs.now.items c.requires.rising c.requires.upto c.ranges.vulnerability.fits other))
