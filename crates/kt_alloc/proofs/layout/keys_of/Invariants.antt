use Rattle.std.proofs.Common.{◌≡◌, map, take}
use Rattle.kt_fmtree.specs.Tree.{Tree}
use Rattle.kt_fmtree.specs.Parts.{IsProgramme}
use Rattle.kt_levels.specs.Layers.{key_of}
use Rattle.kt_alloc.specs.Layout.{keys_for}
use Rattle.kt_alloc.proofs.layout.keys_of.Given as goal

abbrev pub invariant-loop-one : goal.invariant-loop-one
invariant-loop-one l = (tree : Tree) → IsProgramme tree l.programme → l.keys.items ≡ keys_for tree l.rule (map key_of (take l.one-index l.layers))
