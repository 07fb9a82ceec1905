-- The sums of the first amounts.
use Rattle.std.proofs.Common.{◌≡◌, ◌*◌, ◌^◌, ◌≤◌, take, sum, sum_by}
use Rattle.kt_curve.proofs.average.moments.Given as goal

abbrev pub invariant-loop-amount : goal.invariant-loop-amount
invariant-loop-amount l = record {
  total : l.total ≡ sum (take l.amount-index l.amounts);
  squares : l.squares ≡ sum_by (λ amount. amount * amount) (take l.amount-index l.amounts);
  total_bound : l.total ≤ l.amount-index * 10 ^ 15;
  squares_bound : l.squares ≤ l.amount-index * 10 ^ 30;
}
