-- the summaries of the sets so far stand behind the others
use Rattle.std.proofs.Common.{◌≡◌, ◌++◌, length, map}
use Rattle.std.specs.Vec.Iter.{into_iter_items, into_iter_len}
use Rattle.kt_event.proofs.SetLemmas.{of_set}
use Rattle.kt_event.proofs.event.put_summaries.Given as goal

abbrev pub invariant-loop-one : goal.invariant-loop-one
invariant-loop-one l = record {
  all : l.yielded ++ into_iter_items l.one-iterator ≡ into_iter_items l.initial.one-iterator;
  left : into_iter_len l.one-iterator ≡ length (into_iter_items l.one-iterator);
  made : l.made ≡ l.fn.made ++ map (of_set l.perspective) l.yielded;
}
