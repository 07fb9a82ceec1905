use Rattle.kt_fmtree.specs.Programme.{tree_of}
use Rattle.kt_levels.specs.Shares.{taken_loss}
use Rattle.kt_alloc.proofs.laws.losses_are_shared_out_whole.Goals as goal

pub returns : goal.returns
returns c portfolio has samples losses = record {
  sums = c.the_sums_of_layers_are_whole.ensures.whole portfolio has.valid has.programme portfolio.need.rule samples losses;
  outputs = λ sidx top layer is. c.the_outputs_of_a_layer_have_its_policy_loss.ensures.conserved portfolio has (taken_loss (tree_of portfolio.rows 0) losses sidx) top layer is.top_is is.layer_is;
  records = λ top layer is. c.the_records_of_a_layer_have_its_policy_loss.ensures.conserved portfolio has samples losses top layer is.top_is is.layer_is;
}
