-- The first lists are empty.
use Rattle.std.proofs.Common.{◌≡◌, length}
use Rattle.std.specs.Prelude.{All}
use Rattle.kt_ranks.specs.AmountLists.{IsRoom}
use Rattle.kt_ranks.proofs.amounts.empty_lists.Given as goal

abbrev pub invariant-loop-list : goal.invariant-loop-list
invariant-loop-list l = record {
  many : length l.lists.items ≡ l._list;
  empty : All (IsRoom l.room) l.lists.items;
}
