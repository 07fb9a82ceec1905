use Rattle.std.proofs.Common.{◌≡◌, ◌+◌, drop, length}
use Rattle.std.specs.Prelude.{IfSome}
use Rattle.kt_kat.proofs.Finding.{FoundSoFar}
use Rattle.kt_kat.proofs.sizes.find_sizes.Given as goal

-- the files of the words so far were found, and nothing was counted
abbrev pub invariant-words : goal.invariant-words
invariant-words g l = record {
  inputs : g.I.Inputs.state l.inputs ≡ g.I.Inputs.state l.fn.inputs;
  each : length l.sizes.items + 1 ≡ l.n;
  found : IfSome (g.I.Inputs.state l.fn.inputs).held (λ files. FoundSoFar files (drop 1 l.fn.words) (drop l.n l.fn.words) l.sizes.items);
}
