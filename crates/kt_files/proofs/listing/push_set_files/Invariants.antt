-- The files of the sets so far stand behind the others.
use Rattle.std.proofs.Common.{◌≡◌, ◌++◌, take}
use Rattle.std.specs.List.{flat_map}
use Rattle.kt_files.specs.OutputFiles.{set_files}
use Rattle.kt_files.proofs.listing.push_set_files.Given as goal

abbrev pub invariant-loop-set : goal.invariant-loop-set
invariant-loop-set l = l.files.items ≡ l.initial.files.items ++ flat_map set_files (take l.set-index l.sets)
