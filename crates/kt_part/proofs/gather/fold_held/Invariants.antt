use Rattle.std.proofs.Common.{◌≡◌, ℕ, ◌<◌, ◌≤◌, List}
use Rattle.kt_claims.specs.Arrivals.{IsHeld, IsMade}
use Rattle.kt_part.specs.Folding.{Folded}
use Rattle.kt_claims.specs.Slots.{held_at, next_of}
use Rattle.kt_part.proofs.gather.fold_held.Given as goal

abbrev pub invariant-loop-k : goal.invariant-loop-k
invariant-loop-k g l = record {
  folded : (start : g.F.Fold.Start) (before : List g.row.W-Block.Denot) → g.F.Fold.stands start l.fn.fold before → Folded (g.W.Work.gives l._work) (g.F.Fold.stands start l.fold) before l.k;
  fits : (block : g.row.W-Block.Denot) → g.F.Fold.fits l.fn.fold block → g.F.Fold.fits l.fold block;
  next : next_of l.reorder ≡ l.k;
  held : (number : ℕ) → l.k ≤ number → number < l.count → IsHeld (IsMade (g.W.Work.gives l._work) (g.W.Work.lacks l._work) number) (held_at l.reorder number);
}
