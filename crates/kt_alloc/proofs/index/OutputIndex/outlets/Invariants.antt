-- The outputs of the keys so far, before those of the others.
use Rattle.std.proofs.Common.{◌≡◌, ◌++◌}
use Rattle.kt_alloc.specs.Index.{outlets_at}
use Rattle.kt_alloc.proofs.KeyLemmas.{made_from, made_of}
use Rattle.kt_alloc.proofs.index.OutputIndex.outlets.Given as goal

abbrev pub invariant-loop-place : goal.invariant-loop-place
invariant-loop-place l = l.outlets.items ++ made_from (outlets_at l.self) l.keys l.place ≡ made_of (outlets_at l.self) l.keys
