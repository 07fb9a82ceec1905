-- The ranks of one return period more.
use Rattle.std.proofs.Common.{◌≤◌, ℕ, List, length, take_all, arith, ap, subst, sym, ◌∙◌}
use Rattle.std.specs.List.Sorted.{IsPermutation}
use Rattle.kt_ranks.specs.Ranks.{Falls, curve_ranks}
use Rattle.kt_ranks.proofs.RankLemmas.{ranks_kept, ranks_more, written_over}
use Rattle.kt_ranks.proofs.ranks.ranks_of.Goals as goal

pub loop-period-preserved-then-from-count : goal.loop-period-preserved-then-from-count
loop-period-preserved-then-from-count c =
    ranks_kept c.args.count c.from.result c.args.returns.now c.loop-period.ranks.items c.loop-period.period-index c.loop-period-test.true c.from.ensures c.if-from-count.true c.loop-period.invariant

pub loop-period-preserved : goal.loop-period-preserved
loop-period-preserved c =
    let low : c.from-in-loop-period.result ≤ c.args.count = omega (arith, c.from.ensures, c.from-in-loop-period.ensures, c.if-from-count.false) in
    ranks_more c.args.count c.from-in-loop-period.result c.args.returns.now c.loop-period.ranks.items c.push.new.self.items c.push-in-loop-period.new.self.items c.loop-period.period-index c.loop-period-test.true
    c.from-in-loop-period.ensures low c.loop-period.invariant c.in_ok-push.ensures.items c.in_ok-push-2.ensures.items

pub returns-clause-falls : goal.returns-clause-falls
returns-clause-falls c =
    subst (λ (ranks : List ℕ). Falls ranks) (sym (written_over c.loop-period.ranks.items c.rank.new.values c.loop-period.ranks.len c.loop-period.ranks.ok.0 (c.rank.auto.values ∙ ap length c.as_mut_slice.ensures.value))) c.rank.ensures.falls

pub returns-clause-same : goal.returns-clause-same
returns-clause-same c =
    let count = c.args.count in
    let returns = c.args.returns.now in
    let whole = c.as_mut_slice.ensures.value ∙ c.loop-period.invariant ∙ ap (λ (periods : List ℕ). curve_ranks count periods) (take_all c.loop-period.period-index returns c.loop-period-test.false) in
    subst (λ (ranks : List ℕ). IsPermutation (curve_ranks count returns) ranks) (sym (written_over c.loop-period.ranks.items c.rank.new.values c.loop-period.ranks.len c.loop-period.ranks.ok.0 (c.rank.auto.values ∙ ap length c.as_mut_slice.ensures.value)))
    (subst (λ (ranks : List ℕ). IsPermutation ranks c.rank.new.values) whole c.rank.ensures.permutation)
