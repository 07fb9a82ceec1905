use Rattle.std.proofs.Common.{arith}
use Rattle.kt_structure.specs.ProgrammeLaws.{tree_of-is}
use Rattle.kt_structure.specs.Ready.{ready}
use Rattle.kt_fmtree.specs.Programme.{tree_of}
use Rattle.kt_alloc.proofs.GoodLemmas.{sums-whole}
use Rattle.kt_alloc.proofs.laws.the_sums_of_layers_are_whole.Goals as goal

pub returns : goal.returns
returns c = record {
  whole = λ portfolio valid programme rule samples records.
      let rows = portfolio.rows in
      sums-whole (tree_of rows 0) (tree_of-is rows 0 (ready portfolio valid 0 (omega arith) programme).has) rule samples records;
}
