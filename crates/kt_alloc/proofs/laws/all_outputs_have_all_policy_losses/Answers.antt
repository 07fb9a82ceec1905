use Rattle.kt_alloc.proofs.TotalLemmas.{rows-total}
use Rattle.kt_alloc.proofs.laws.all_outputs_have_all_policy_losses.Goals as goal

pub returns : goal.returns
returns c = record { conserved = λ portfolio has losses. rows-total portfolio.rows portfolio.need.rule losses (c.the_outputs_of_a_layer_have_its_policy_loss.ensures.conserved portfolio has losses) }
