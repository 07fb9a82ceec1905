-- Sorted values the other way round.
use Rattle.std.proofs.Common.{◌≤◌, ℕ, ◌∙◌, nat_le}
use Rattle.std.proofs.lemmas.List.Sorted.{IsNonDecreasingBy-from_sort, sum_by-IsPermutation, All-permutation, IsPermutation-trans}
use Rattle.kt_cell.specs.Losses.{one_if}
use Rattle.kt_cell.specs.Standing.{most_total}
use Rattle.kt_ranks.specs.RankLaws.{falls_sorted}
use Rattle.kt_ranks.proofs.ranks.rank.Goals as goal

pub returns-clause-falls : goal.returns-clause-falls
returns-clause-falls c = rw c.reverse.ensures.after (falls_sorted c.sort_unstable.new.self (IsNonDecreasingBy-from_sort (λ (x : ℕ). x) c.sort_unstable.new.self c.sort_unstable.ensures.sorted))

pub returns-clause-same : goal.returns-clause-same
returns-clause-same c = λ least.
    sum_by-IsPermutation (λ (value : ℕ). one_if (nat_le least value)) c.sort_unstable.new.self c.reverse.new.self c.reverse.ensures.permutation
    ∙ sum_by-IsPermutation (λ (value : ℕ). one_if (nat_le least value)) c.args.values.now c.sort_unstable.new.self c.sort_unstable.ensures.permutation

pub returns-clause-most : goal.returns-clause-most
returns-clause-most c = λ most.
    All-permutation (λ value. value ≤ most_total) c.sort_unstable.new.self c.reverse.new.self c.reverse.ensures.permutation
    (All-permutation (λ value. value ≤ most_total) c.args.values.now c.sort_unstable.new.self c.sort_unstable.ensures.permutation most)

pub returns-clause-permutation : goal.returns-clause-permutation
returns-clause-permutation c = IsPermutation-trans c.args.values.now c.sort_unstable.new.self c.reverse.new.self c.sort_unstable.ensures.permutation c.reverse.ensures.permutation
