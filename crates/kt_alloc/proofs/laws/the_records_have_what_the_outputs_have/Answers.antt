use Rattle.std.proofs.lemmas.List.Elements.{All-from_recursion}
use Rattle.kt_tables.specs.PortfolioLaws.{keys_kept}
use Rattle.kt_fmtree.specs.Programme.{tree_of}
use Rattle.kt_rec.specs.Sums.{each_then}
use Rattle.kt_runs.specs.Records.{insured_range}
use Rattle.kt_alloc.proofs.RecordLemmas.{made-own}
use Rattle.kt_alloc.proofs.laws.the_records_have_what_the_outputs_have.Goals as goal

pub returns : goal.returns
returns c = record {
  value = λ portfolio valid rule samples records.
      let rows = portfolio.rows in
      All-from_recursion _ (insured_range samples) (each_then _ _ (λ sidx all. All-from_recursion _ rows.fm_xref all) (insured_range samples) (made-own rows.fm_xref (keys_kept portfolio valid).outputs (tree_of rows 0) rule samples records));
}
