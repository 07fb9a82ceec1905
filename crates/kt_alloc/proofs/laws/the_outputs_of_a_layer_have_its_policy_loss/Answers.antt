use Rattle.std.proofs.Common.{arith}
use Rattle.kt_structure.specs.Ready.{ready}
use Rattle.kt_structure.specs.OutputLaws.{outputs_of-tree}
use Rattle.kt_structure.specs.ProgrammeLaws.{tree_of-is}
use Rattle.kt_tables.specs.PortfolioLaws.{keys_kept, outputs_kept}
use Rattle.kt_alloc.proofs.WholeLemmas.{rows-whole}
use Rattle.kt_alloc.proofs.laws.the_outputs_of_a_layer_have_its_policy_loss.Goals as goal

pub returns : goal.returns
returns c = record {
  conserved = λ portfolio has.
      let rows = portfolio.rows in
      rows-whole rows portfolio.need.rule (tree_of-is rows 0 (ready portfolio has.valid 0 (omega arith) has.programme).has) (outputs_of-tree rows portfolio.need.rule (outputs_kept portfolio has.valid has.programme has.terms has.outputs)) (keys_kept portfolio has.valid).layers;
}
