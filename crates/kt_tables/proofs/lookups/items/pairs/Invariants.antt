-- The pairs are those of the items so far, and none is above that of a later item.
use Rattle.std.proofs.Common.{◌≡◌, ℕ, ◌<◌, ◌≤◌, get_or, length, take}
use Rattle.kt_rec.specs.declared.exposure.Item.{Item}
use Rattle.kt_tables.specs.Lookups.{item_pairs, pair_of}
use Rattle.kt_tables.specs.PairsMade.{ArePairsUpto}
use Rattle.kt_tables.proofs.lookups.items.pairs.Given as goal

abbrev pub invariant-loop-row : goal.invariant-loop-row
invariant-loop-row l = record {
  made : l.pairs.items ≡ item_pairs (take l.row-index l.items);
  upto : (k : ℕ) (d : Item) → l.row-index ≤ k → k < length l.items → ArePairsUpto (pair_of (get_or l.items k d)) l.pairs.items;
}
