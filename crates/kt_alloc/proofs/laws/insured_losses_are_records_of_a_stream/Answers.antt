use Rattle.std.proofs.Common.{arith}
use Rattle.kt_structure.specs.ProgrammeLaws.{tree_of-is}
use Rattle.kt_structure.specs.Ready.{ready}
use Rattle.kt_fmtree.specs.Programme.{tree_of}
use Rattle.kt_alloc.proofs.GoodLemmas.{insured-good}
use Rattle.kt_alloc.proofs.laws.insured_losses_are_records_of_a_stream.Goals as goal

pub returns : goal.returns
returns c = record {
  good = λ portfolio valid programme rule samples records are within.
      let rows = portfolio.rows in
      insured-good (tree_of rows 0) (tree_of-is rows 0 (ready portfolio valid 0 (omega arith) programme).has) rule samples rows.fm_xref records valid.in_range.fm_xref are within;
}
