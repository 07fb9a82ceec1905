-- The files of the tables so far stand behind the others.
use Rattle.std.proofs.Common.{◌≡◌, ◌++◌, map, take}
use Rattle.kt_files.specs.declared.file.OutputFile.TheVariants.{OfSet}
use Rattle.kt_files.proofs.listing.push_tables.Given as goal

abbrev pub invariant-loop-table : goal.invariant-loop-table
invariant-loop-table l = l.files.items ≡ l.initial.files.items ++ map (OfSet l.set) (take l.table-index l.tables)
